-- One replica: its events, answers and refusals. Definitions only.
use Rattle.std.specs.Prelude.{ℕ, suc, Bool, true, false, cond, not, ◌&&◌, ◌||◌, List, [], ◌∷◌, ◌++◌, length, ◌==◌, nat_le, nat_lt}
use Rattle.model.specs.Limits.{Limits, count_bound}
use Rattle.model.specs.Clock.{Clock, at, good_clock}
use Rattle.model.specs.Put.{Put, had, good_head, Body, good_body}
use Rattle.model.specs.Delivery.{Delivery, new_delivery, ready, nothing_new, learned, Run, begin, take_one, deliver, stamped, reply}
use Rattle.model.specs.Store.{Store, new_store, shown, stored_all}

-- delivery decides what is taken, the store shows it
pub record Replica : Type 0 where
  pub delivery : Delivery Body
  pub store : Store

-- replica i as it is opened
abbrev pub new_replica : Limits → ℕ → Replica
new_replica l i = record { delivery = new_delivery l i; store = new_store l }

-- its clock
abbrev pub clock_of : Replica → Clock
clock_of r = r.delivery.clock

-- what can happen at a replica
pub data Event : Type 0 where
  put : Body → Event
  get : ℕ → Event
  came : Put Body → Event  -- a put came, another's or one's own again
  has : ℕ → Clock → Event  -- a replica told what it has; it is sent what it lacks
  tell : Event  -- say what is here
  garbled : ℕ → Event  -- bytes that are no event, and where they cease to be one

-- what it answers
pub data Answer : Type 0 where
  refused : ℕ → ℕ → Answer  -- which refusal, and the place
  puts : List (Put Body) → Answer  -- puts to be sent
  value : List (Put Body) → Answer  -- what stands at a key: none or one
  clock_is : Clock → Answer

-- by these numbers a build says which events it supports
unfoldable pub event_number : Event → ℕ
event_number (put b) = 0
event_number (get k) = 1
event_number (came p) = 2
event_number (has j c) = 3
event_number tell = 4
event_number (garbled n) = 255

-- REFUSALS. Each check says of an event whether it passes. 1: it is an event
unfoldable pub legible : Event → Bool
legible (put b) = true
legible (get k) = true
legible (came p) = true
legible (has j c) = true
legible tell = true
legible (garbled n) = false

-- 2: its numbers are in range
unfoldable pub in_range : Limits → Event → Bool
in_range l (put b) = good_body l b
in_range l (get k) = nat_lt k l.keys
in_range l (came p) = good_body l p.body && good_head l p
in_range l (has j c) = nat_lt j l.replicas && good_clock l c
in_range l tell = true
in_range l (garbled n) = true

-- 3: nobody has more of this replica's puts than it made
unfoldable pub possible : Delivery Body → Event → Bool
possible d (put b) = true
possible d (get k) = true
possible d (came p) = not (p.from == d.me) || had d.clock p
possible d (has j c) = nat_le (at c d.me) (at d.clock d.me)
possible d tell = true
possible d (garbled n) = true

-- 4: an own put finds room in the log and a number in range
unfoldable pub log_room : Limits → Delivery Body → Event → Bool
log_room l d (put b) = nat_lt (length d.log) l.log_most && nat_lt (suc (at d.clock d.me)) count_bound
log_room l d (get k) = true
log_room l d (came p) = true
log_room l d (has j c) = true
log_room l d tell = true
log_room l d (garbled n) = true

-- 5: a put that has to wait finds room in the queue
unfoldable pub queue_room : Limits → Delivery Body → Event → Bool
queue_room l d (put b) = true
queue_room l d (get k) = true
queue_room l d (came p) = (nothing_new d p || ready d p) || nat_lt (length d.waiting) l.waiting_most
queue_room l d (has j c) = true
queue_room l d tell = true
queue_room l d (garbled n) = true

-- whether an event passes, and which refusal it is if not
pub record Check : Type 0 where
  pub passes : Bool
  pub refusal : ℕ  -- its number, if not

-- the checks in their order
abbrev pub checks : Limits → Delivery Body → Event → List Check
checks l d e =
    record { passes = legible e; refusal = 1 }
    ∷ record { passes = l.supports (event_number e) && in_range l e; refusal = 2 }
    ∷ record { passes = possible d e; refusal = 3 }
    ∷ record { passes = log_room l d e; refusal = 4 }
    ∷ record { passes = queue_room l d e; refusal = 5 }
    ∷ []

-- the refusal of the first check that fails, else 0
unfoldable pub first_failing : List Check → ℕ
first_failing [] = 0
first_failing (c ∷ cs) = cond c.passes (first_failing cs) c.refusal

-- the refusal of an event, 0 for none
abbrev pub refusal : Limits → Replica → Event → ℕ
refusal l r e = first_failing (checks l r.delivery e)

-- no check fails
abbrev pub accepted : Limits → Replica → Event → Bool
accepted l r e = refusal l r e == 0

-- where bytes cease to be an event; else 0
unfoldable pub place : Event → ℕ
place (put b) = 0
place (get k) = 0
place (came p) = 0
place (has j c) = 0
place tell = 0
place (garbled n) = n

-- WHAT AN ACCEPTED EVENT DOES: it moves delivery, and the store takes what was taken
unfoldable pub moves : Limits → Delivery Body → Event → Run Body
moves l d (put b) = take_one (stamped b d) (begin d)
moves l d (get k) = begin d
moves l d (came p) = deliver l p d
moves l d (has j c) = begin (learned j c d)
moves l d tell = begin d
moves l d (garbled n) = begin d

-- delivery after, and the store with the puts taken
abbrev pub moved : Run Body → Store → Replica
moved m s = record { delivery = m.now; store = stored_all m.taken s }

-- and what it answers, from the state before
unfoldable pub says : Replica → Event → Answer
says r (put b) = puts (stamped b r.delivery ∷ [])
says r (get k) = value (shown r.store k)
says r (came p) = puts []
says r (has j c) = puts (reply c r.delivery)
says r tell = clock_is (clock_of r)
says r (garbled n) = puts []

-- ANY EVENT: refused, or answered and done
abbrev pub answer : Limits → Replica → Event → Answer
answer l r e = cond (accepted l r e) (says r e) (refused (refusal l r e) (place e))

-- the replica after an event
abbrev pub after : Limits → Replica → Event → Replica
after l r e = cond (accepted l r e) (moved (moves l r.delivery e) r.store) r

-- the puts that it takes, the last first
abbrev pub takes : Limits → Replica → Event → List (Put Body)
takes l r e = cond (accepted l r e) (moves l r.delivery e).taken []

-- replica i after some events, the last first
unfoldable pub replica : Limits → ℕ → List Event → Replica
replica l i [] = new_replica l i
replica l i (e ∷ es) = after l (replica l i es) e

-- and the puts that it took in them, the last first
unfoldable pub history : Limits → ℕ → List Event → List (Put Body)
history l i [] = []
history l i (e ∷ es) = takes l (replica l i es) e ++ history l i es
