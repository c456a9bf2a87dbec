-- How bytes are read as answers. Definitions only.
use Rattle.std.specs.Prelude.{ℕ, zero, suc, Bool, true, cond, ◌&&◌, List, [], ◌∷◌, length, take, drop, Some, None, Option, ◌==◌, nat_le, nat_lt, slice_index, slice_index_or}
use Rattle.model.specs.Put.{Put, Body}
use Rattle.model.specs.Replica.{came, Answer, refused, puts, value, clock_is}
use Rattle.model.specs.Program.{word_bound, all_below, readable}
use Rattle.wire.specs.Bytes.{write_put}
use Rattle.wire.specs.Reading.{Part, whole, ceases, number_in, clock_in, clock_size, read_put}

-- what comes next of some puts: their end, or a put and the bytes after it
pub data Next : Type 0 where
  end : Next
  more : Put Body → List ℕ → Next

-- a put that was read, and the bytes s after it
abbrev pub then_more : List ℕ → Part (Put Body) → Option Next
then_more s (whole p) = Some (more p s)
then_more s (ceases k) = None

-- a put of n bytes, and what follows
abbrev pub framed : ℕ → List ℕ → Option Next
framed n s = cond (nat_le n (length s)) (then_more (drop n s) (read_put (take n s))) None

-- the 0 at their end and nothing left over; or a 1, how many bytes the next has, and these
unfoldable pub next_put : List ℕ → Option Next
next_put s =
    cond (slice_index_or s 0 1 == 0) (cond (length s == 1) (Some end) None)
    (cond (nat_le 9 (length s) && slice_index s 0 == 1) (framed (number_in (drop 1 s)) (drop 9 s)) None)

-- a put before others
abbrev pub put_before : Put Body → Option (List (Put Body)) → Option (List (Put Body))
put_before p (Some ps) = Some (p ∷ ps)
put_before p None = None

-- the next, and what f gives after it
abbrev pub go_on : (List ℕ → Option (List (Put Body))) → Option Next → Option (List (Put Body))
go_on f (Some end) = Some []
go_on f (Some (more p s)) = put_before p (f s)
go_on f None = None

-- the puts that s is, one after the other; n at most
unfoldable pub puts_within : ℕ → List ℕ → Option (List (Put Body))
puts_within zero s = None
puts_within (suc n) s = go_on (puts_within n) (next_put s)

-- all of them
unfoldable pub puts_in : List ℕ → Option (List (Put Body))
puts_in s = puts_within (length s) s

-- AS ANSWERS: puts
abbrev pub puts_answer : Option (List (Put Body)) → Option Answer
puts_answer (Some ps) = Some (puts ps)
puts_answer None = None

-- none or one
abbrev pub value_answer : Option (List (Put Body)) → Option Answer
value_answer (Some []) = Some (value [])
value_answer (Some (p ∷ [])) = Some (value (p ∷ []))
value_answer (Some (p ∷ q ∷ ps)) = None
value_answer None = None

-- a clock, and nothing left over
abbrev pub clock_answer : List ℕ → Part ℕ → Option Answer
clock_answer s (whole n) = cond (nat_lt n (length s)) None (Some (clock_is (clock_in s)))
clock_answer s (ceases n) = None

-- a refusal and its place
abbrev pub refused_answer : List ℕ → Option Answer
refused_answer s = cond (length s == 16) (Some (refused (number_in s) (number_in (drop 8 s)))) None

-- THE ANSWER that bytes are, or none
unfoldable pub read_answer : List ℕ → Option Answer
read_answer s =
    let t : ℕ = slice_index_or s 0 4 in
    let r : List ℕ = drop 1 s in
    cond (t == 0) (refused_answer r)
    (cond (t == 1) (puts_answer (puts_in r)) (cond (t == 2) (value_answer (puts_in r)) (cond (t == 3) (clock_answer r (clock_size r)) None)))

-- puts that bytes can carry, with their lengths
unfoldable pub readable_puts : List (Put Body) → Bool
readable_puts [] = true
readable_puts (p ∷ ps) = (readable (came p) && nat_lt (length (write_put p)) word_bound) && readable_puts ps

-- answers that bytes can carry
unfoldable pub readable_answer : Answer → Bool
readable_answer (refused n k) = nat_lt n word_bound && nat_lt k word_bound
readable_answer (puts ps) = readable_puts ps
readable_answer (value ps) = nat_le (length ps) 1 && readable_puts ps
readable_answer (clock_is c) = all_below word_bound c
