-- What the code's values stand for. Definitions only.
use Rattle.std.specs.Prelude.{◌≡◌, ℕ, suc, ◌-◌, ◌≤◌, false, ◌&&◌, List, [], ◌∷◌, ◌++◌, length, replicate, Some, None, Ok, Err, Option, Result, MatchOption, ◌==◌, nat_le}
use Rattle.model.specs.Clock as clock
use Rattle.model.specs.Put as put
use Rattle.model.specs.Replica as replica
use Rattle.wire.specs.Reading.{Part, whole, ceases, clock_in}
use denote.Ref.{Bor}
use Rattle.puts.specs.declared.event.Put.{Put as PutOf}
use Rattle.puts.specs.declared.event.Event.{Event as EventOf}
use Rattle.puts.specs.declared.event.Event.TheVariants.{Put, Get, Came, Has, Tell}
use Rattle.wire.specs.declared.event.ClockBytes.{ClockBytes}
use Rattle.puts.specs.declared.event.Answer.{Answer as AnswerOf}
use Rattle.puts.specs.declared.event.Answer.TheVariants.{Refused, Puts, Value, Clock}
use Rattle.wire.specs.declared.answer.PutsBytes.{PutsBytes}
use Rattle.wire.specs.declared.answer.NoPuts.{NoPuts}
use Rattle.wire.specs.declared.answer.Puts.{Puts as PutsLeft}
use Rattle.wire.specs.declared.clock.Counts.{Counts}
use Rattle.wire.specs.declared.garbled.Garbled.{Garbled}
use Rattle.wire.specs.Answers as answers

-- a put and an event whose clocks and values are parts of bytes
abbrev pub PutBytes : Type 0
PutBytes = PutOf ClockBytes (Bor (List ℕ))

abbrev pub Event : Type 0
Event = EventOf ClockBytes (Bor (List ℕ))

-- what a put carries
abbrev pub body : ℕ × Bor (List ℕ) → put.Body
body b = put.text b.0 b.1.now

-- a put with its parts
abbrev pub put_of : PutBytes → put.Put put.Body
put_of p = record { from = p.from; seen = clock_in p.seen.bytes.now; body = put.text p.key p.value.now }

-- each event with its parts
abbrev pub event : Event → replica.Event
event (Put k v) = replica.put (put.text k v.now)
event (Get k) = replica.get k
event (Came p) = replica.came (put_of p)
event (Has j c) = replica.has j (clock_in c.bytes.now)
event Tell = replica.tell

-- a part that was read, or the place where the bytes cease to be it
abbrev pub part : {A B : Type 0} → (A → B) → Result A Garbled → Part B
part f (Ok a) = whole (f a)
part f (Err g) = ceases g.place

-- the place lies in the bytes s
abbrev pub Within : {A : Type 0} → Result A Garbled → List ℕ → Type 0
Within (Ok a) s = Unit {0}
Within (Err g) s = g.place ≤ length s

-- the event that was read; or the bytes are none, from a place on
abbrev pub said : Result Event Garbled → replica.Event
said (Ok e) = event e
said (Err g) = replica.garbled g.place

-- the counts that are still to come
abbrev pub counts_left : Counts → clock.Clock
counts_left c = clock_in c.bytes.now

-- the n counts of the clock c, and zeros after them, up to sixteen; or none, if it has not n, or n is over sixteen
abbrev pub Counted : Option (List ℕ) → ℕ → clock.Clock → Type 0
Counted r n c = MatchOption r ((nat_le n 16 && length c == n) ≡ false) (λ a. (n ≤ 16) × (length c ≡ n) × (a ≡ c ++ replicate (16 - n) 0))

-- ANSWERS: what comes next of some puts
abbrev pub next : Result (Option (PutBytes × PutsBytes)) NoPuts → Option answers.Next
next (Ok None) = Some answers.end
next (Ok (Some p)) = Some (answers.more (put_of p.0) p.1.bytes.now)
next (Err e) = None

-- the same of a put
abbrev pub put_next : Result (PutBytes × PutsBytes) NoPuts → Option answers.Next
put_next (Ok p) = Some (answers.more (put_of p.0) p.1.bytes.now)
put_next (Err e) = None

-- the bytes of the puts that are still to come; after the last, and after an error, an end
abbrev pub left_of : Option (Bor (List ℕ)) → List ℕ
left_of (Some b) = b.now
left_of None = 0 ∷ []

abbrev pub bytes_left : PutsLeft → List ℕ
bytes_left p = left_of p.left

-- so many steps at most
abbrev pub steps_of : Option (Bor (List ℕ)) → ℕ
steps_of (Some b) = suc (length b.now)
steps_of None = 0

abbrev pub steps_left : PutsLeft → ℕ
steps_left p = steps_of p.left

-- what a step gave, and the bytes s after it
abbrev pub given : Option (Result PutBytes NoPuts) → List ℕ → Option answers.Next
given None s = Some answers.end
given (Some (Ok p)) s = Some (answers.more (put_of p) s)
given (Some (Err e)) s = None

-- only a put has others after it
abbrev pub Others : Option (Result PutBytes NoPuts) → List ℕ → Type 0
Others None s = s ≡ 0 ∷ []
Others (Some (Ok p)) s = Unit {0}
Others (Some (Err e)) s = s ≡ 0 ∷ []

-- a step gives what comes next, and ends with the puts or with an error
abbrev pub NextPut : PutsLeft → Option (Result PutBytes NoPuts) → PutsLeft → Type 0
NextPut p r q = (given r (bytes_left q) ≡ answers.next_put (bytes_left p)) × Others r (bytes_left q)

-- what stands at a key
abbrev pub none_or_one : Option PutBytes → List (put.Put put.Body)
none_or_one (Some p) = put_of p ∷ []
none_or_one None = []

-- an answer whose parts are parts of bytes
abbrev pub Answer : Type 0
Answer = AnswerOf ClockBytes (Bor (List ℕ)) PutsBytes

-- each answer with its values; puts are walked to their end
abbrev pub answer : Option Answer → Option replica.Answer
answer (Some (Refused r)) = Some (replica.refused r.number r.place)
answer (Some (Puts p)) = answers.puts_answer (answers.puts_in p.bytes.now)
answer (Some (Value p)) = Some (replica.value (none_or_one p))
answer (Some (Clock c)) = Some (replica.clock_is (clock_in c.bytes.now))
answer None = None
