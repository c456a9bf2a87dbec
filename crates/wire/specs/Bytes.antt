-- How events and answers are written as bytes. Definitions only.
use Rattle.std.specs.Prelude.{ℕ, zero, suc, ◌/◌, ◌%◌, List, [], ◌∷◌, ◌++◌, length, replicate}
use Rattle.model.specs.Clock.{Clock}
use Rattle.model.specs.Put.{Put, Body, text}
use Rattle.model.specs.Replica.{Event, put, get, came, has, tell, garbled, Answer, refused, puts, value, clock_is}

-- a number: eight bytes, the lowest first
abbrev pub write_number : ℕ → List ℕ
write_number n =
    (n % 256) ∷ (n / 256 % 256) ∷ (n / 65536 % 256) ∷ (n / 16777216 % 256) ∷ (n / 4294967296 % 256) ∷ (n / 1099511627776 % 256) ∷ (n / 281474976710656 % 256) ∷ (n / 72057594037927936 % 256) ∷ []

-- counts: a 1 before each
unfoldable pub write_counts : Clock → List ℕ
write_counts [] = []
write_counts (n ∷ ns) = 1 ∷ (write_number n ++ write_counts ns)

-- a clock: its counts, and a 0 at the end; s follows
abbrev pub write_clock : Clock → List ℕ → List ℕ
write_clock c s = write_counts c ++ (0 ∷ s)

-- a body: its form, which is 0, its key, and its value, which is all that follows
abbrev pub write_body : Body → List ℕ
write_body (text k v) = 0 ∷ (write_number k ++ v)

-- a put: its replica, its clock, its body
abbrev pub write_put : Put Body → List ℕ
write_put p = write_number p.from ++ write_clock p.seen (write_body p.body)

-- an event: its number and its parts. Bytes that are no event from place n on: a put that never ends
abbrev pub write_event : Event → List ℕ
write_event (put b) = 0 ∷ write_body b
write_event (get k) = 1 ∷ write_number k
write_event (came p) = 2 ∷ write_put p
write_event (has j c) = 3 ∷ (write_number j ++ write_clock c [])
write_event tell = 4 ∷ []
write_event (garbled zero) = []
write_event (garbled (suc n)) = 2 ∷ replicate n 1

-- a put among others: a 1, how many bytes it has, and these
abbrev pub write_item : Put Body → List ℕ
write_item p = 1 ∷ (write_number (length (write_put p)) ++ write_put p)

-- puts: one after the other, and a 0 at the end
unfoldable pub write_puts : List (Put Body) → List ℕ
write_puts [] = 0 ∷ []
write_puts (p ∷ ps) = write_item p ++ write_puts ps

-- AN ANSWER: its number
abbrev pub answer_number : Answer → ℕ
answer_number (refused n k) = 0
answer_number (puts ps) = 1
answer_number (value ps) = 2
answer_number (clock_is c) = 3

-- and its values: the refusal and the place; the puts; none or one; the clock
abbrev pub write_values : Answer → List ℕ
write_values (refused n k) = write_number n ++ write_number k
write_values (puts ps) = write_puts ps
write_values (value ps) = write_puts ps
write_values (clock_is c) = write_clock c []

-- the two together
abbrev pub write_answer : Answer → List ℕ
write_answer a = answer_number a ∷ write_values a
