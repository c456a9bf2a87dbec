-- How bytes are read as events. Definitions only.
use Rattle.std.specs.Prelude.{ℕ, zero, suc, ◌+◌, ◌*◌, cond, ◌&&◌, List, [], ◌∷◌, length, drop, ◌==◌, nat_le, nat_lt, slice_index, slice_index_or}
use Rattle.model.specs.Clock.{Clock}
use Rattle.model.specs.Put.{Put, Body, text}
use Rattle.model.specs.Replica.{Event, put, get, came, has, tell, garbled}
use Rattle.model.specs.Cluster.{Told}

-- What bytes are, or the place where they cease to be it.
pub data Part (A : Type 0) : Type 0 where
  whole : A → Part A
  ceases : ℕ → Part A

-- the same, as something else
abbrev pub mapped : {A B : Type 0} → (A → B) → Part A → Part B
mapped f (whole a) = whole (f a)
mapped f (ceases k) = ceases k

-- a part that begins at place n, and what follows from it
abbrev pub then : {A B : Type 0} → ℕ → Part A → (A → Part B) → Part B
then n (whole a) f = f a
then n (ceases k) f = ceases (n + k)

-- p, if s has n bytes; else s is cut short
abbrev pub reach : {A : Type 0} → List ℕ → ℕ → Part A → Part A
reach s n p = cond (nat_le n (length s)) p (ceases (length s))

-- p, if s has no more than n bytes; else something is left over
abbrev pub last : {A : Type 0} → List ℕ → ℕ → Part A → Part A
last s n p = cond (nat_lt n (length s)) (ceases n) p

-- the number in the first eight bytes, the lowest first
unfoldable pub number_in : List ℕ → ℕ
number_in s =
    slice_index s 0 + slice_index s 1 * 256 + slice_index s 2 * 65536 + slice_index s 3 * 16777216 + slice_index s 4 * 4294967296 + slice_index s 5 * 1099511627776 + slice_index s 6 * 281474976710656 + slice_index s 7 * 72057594037927936

-- the counts that s begins with, a 1 before each; f at most
unfoldable pub counts_in : ℕ → List ℕ → Clock
counts_in zero s = []
counts_in (suc f) s = cond (nat_le 9 (length s) && slice_index s 0 == 1) (number_in (drop 1 s) ∷ counts_in f (drop 9 s)) []

-- the clock that s begins with
unfoldable pub clock_in : List ℕ → Clock
clock_in s = counts_in (length s) s

-- how many bytes its counts take
unfoldable pub span : List ℕ → ℕ
span s = 9 * length (clock_in s)

-- how many bytes it takes with the 0 at its end
unfoldable pub clock_size : List ℕ → Part ℕ
clock_size s =
    let m : ℕ = slice_index_or s (span s) 0 in
    cond (nat_lt (span s) (length s)) (cond (m == 0) (whole (span s + 1)) (cond (m == 1) (ceases (length s)) (ceases (span s)))) (ceases (length s))

-- a form, which is 0, a key, and all that follows
unfoldable pub read_body : List ℕ → Part Body
read_body s = cond (slice_index s 0 == 0) (reach s 9 (whole (text (number_in (drop 1 s)) (drop 9 s)))) (ceases 0)

-- the put with a clock of n bytes
abbrev pub put_with : List ℕ → ℕ → Part (Put Body)
put_with s n = then (8 + n) (read_body (drop (8 + n) s)) (λ b. whole (record { from = number_in s; seen = clock_in (drop 8 s); body = b }))

-- a replica, a clock, a body
unfoldable pub read_put : List ℕ → Part (Put Body)
read_put s = reach s 8 (then 8 (clock_size (drop 8 s)) (put_with s))

-- a number, and nothing left over
abbrev pub read_key : List ℕ → Part ℕ
read_key s = reach s 8 (last s 8 (whole (number_in s)))

-- a replica and its clock, and nothing left over
abbrev pub read_told : List ℕ → Part Told
read_told s = reach s 8 (then 8 (clock_size (drop 8 s)) (λ n. last s (8 + n) (whole (record { who = number_in s; clock = clock_in (drop 8 s) }))))

-- no bytes
abbrev pub read_nothing : List ℕ → Part (Unit {0})
read_nothing s = last s 0 (whole tt)

-- as an event
abbrev pub has_told : Told → Event
has_told t = has t.who t.clock

-- what follows the event's number
unfoldable pub read_parts : ℕ → List ℕ → Part Event
read_parts t s = cond (t == 0) (mapped put (read_body s)) (cond (t == 1) (mapped get (read_key s)) (cond (t == 2) (mapped came (read_put s)) (cond (t == 3) (mapped has_told (read_told s)) (mapped (λ _. tell) (read_nothing s)))))

-- an event: its number, and what follows
unfoldable pub read_event : List ℕ → Part Event
read_event s = cond (nat_lt 0 (length s) && nat_lt (slice_index s 0) 5) (then 1 (read_parts (slice_index s 0) (drop 1 s)) whole) (ceases 0)

-- what is no event is garbled
abbrev pub event_in : Part Event → Event
event_in (whole e) = e
event_in (ceases n) = garbled n

-- THE EVENT that bytes are; if they are none, garbled, with the place where they cease to be one
abbrev pub read : List ℕ → Event
read s = event_in (read_event s)
