-- What the code's values stand for. Definitions only.
use Rattle.std.specs.Prelude.{ℕ, List, [], ◌∷◌, map, Some, None, Option}
use Rattle.model.specs.Put as put
use Rattle.model.specs.Replica as replica
use Rattle.wire.specs.Bytes.{write_item}
use denote.Ref.{Bor}
use Rattle.puts.specs.declared.event.Put.{Put as PutOf}
use Rattle.puts.specs.declared.event.Answer.{Answer as AnswerOf}
use Rattle.puts.specs.declared.event.Answer.TheVariants.{Refused, Puts, Value, Clock}

-- a put and an answer over lent counts and values
abbrev pub Put : Type 0
Put = PutOf (Bor (List ℕ)) (Bor (List ℕ))

abbrev pub Answer : Type 0
Answer = AnswerOf (Bor (List ℕ)) (Bor (List ℕ)) (Bor (List Put))

-- a put with its parts
abbrev pub put_of : Put → put.Put put.Body
put_of p = record { from = p.from; seen = p.seen.now; body = put.text p.key p.value.now }

-- what stands at a key
abbrev pub none_or_one : Option Put → List (put.Put put.Body)
none_or_one (Some p) = put_of p ∷ []
none_or_one None = []

-- each answer with its values
abbrev pub answer : Answer → replica.Answer
answer (Refused r) = replica.refused r.number r.place
answer (Puts ps) = replica.puts (map put_of ps.now)
answer (Value p) = replica.value (none_or_one p)
answer (Clock c) = replica.clock_is c.now

-- a put, written among others
abbrev pub item : Put → List ℕ
item p = write_item (put_of p)
