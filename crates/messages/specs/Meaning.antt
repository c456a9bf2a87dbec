-- What a script's events and answers stand for. Definitions only.
use Rattle.std.specs.Prelude.{[], ◌∷◌, map, Some, None, vec_items}
use Rattle.model.specs.Put as put
use Rattle.model.specs.Replica as replica
use Rattle.puts.specs.declared.event.Answer.TheVariants.{Refused, Puts, Value, Clock}
use Rattle.puts.specs.declared.event.Event.TheVariants.{Put as Put', Get, Came, Has, Tell}
use Rattle.text.specs.Event.{Put, Event, Answer}

-- a put
abbrev pub put_of : Put → put.Put put.Body
put_of p = record { from = p.from; seen = vec_items p.seen; body = put.text p.key (vec_items p.value) }

-- each event
abbrev pub event_of : Event → replica.Event
event_of (Put' k v) = replica.put (put.text k (vec_items v))
event_of (Get k) = replica.get k
event_of (Came p) = replica.came (put_of p)
event_of (Has j c) = replica.has j (vec_items c)
event_of Tell = replica.tell

-- each answer
abbrev pub answer_of : Answer → replica.Answer
answer_of (Refused r) = replica.refused r.number r.place
answer_of (Puts ps) = replica.puts (map put_of (vec_items ps))
answer_of (Value None) = replica.value []
answer_of (Value (Some p)) = replica.value (put_of p ∷ [])
answer_of (Clock c) = replica.clock_is (vec_items c)
