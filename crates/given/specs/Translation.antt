-- The flat form in the terms of the model. Definitions only.
use Rattle.std.specs.Prelude.{map}
use Rattle.model.specs.Limits.{Limits}
use Rattle.model.specs.Put.{Put, Body, text, key_of, value_of}
use Rattle.model.specs.Replica.{Replica, Event, put, get, came, has, tell, garbled, Answer, refused, puts, value, clock_is}
use Rattle.model.specs.Program.{Program}
use Rattle.given.specs.Replica as f
use Rattle.given.specs.Statements as s

abbrev pub limits : f.Limits → Limits
limits l = record { supports = l.supports; replicas = l.replicas; keys = l.keys; log_most = l.log_most; waiting_most = l.waiting_most }

abbrev pub lift : f.Put → Put Body
lift p = record { from = p.from; seen = p.seen; body = text p.key p.value }

abbrev pub lower : Put Body → f.Put
lower p = record { key = key_of p.body; value = value_of p.body; from = p.from; seen = p.seen }

abbrev pub up : f.Replica → Replica
up h =
    record { delivery = record { me = h.me; clock = h.clock; log = map lift h.log; waiting = map lift h.waiting; known = h.known }; store = map (map lift) h.store }

abbrev pub event : f.Event → Event
event (f.put k v) = put (text k v)
event (f.get k) = get k
event (f.came p) = came (lift p)
event (f.has i c) = has i c
event f.tell = tell
event (f.garbled n) = garbled n

abbrev pub lifted : f.Answer → Answer
lifted (f.refused n k) = refused n k
lifted (f.done ps) = puts (map lift ps)
lifted (f.value ps) = value (map lift ps)
lifted (f.here c) = clock_is c

abbrev pub lowered : Answer → f.Answer
lowered (refused n k) = f.refused n k
lowered (puts ps) = f.done (map lower ps)
lowered (value ps) = f.value (map lower ps)
lowered (clock_is c) = f.here c

-- the same program, with events and answers in the flat form
abbrev pub flat : Program → s.Program
flat f = record { opened = λ l i. f.opened (limits l) i; called = λ m e. f.called m (event e); answers = λ m e. lowered (f.answers m (event e)) }
