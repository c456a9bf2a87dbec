-- Taking a put in steps. Definitions only.
use Rattle.std.specs.Prelude.{◌≡◌, ℕ, ◌-◌, Bool, false, cond, not, List, [], ◌∷◌, ◌++◌, map, length, take, drop, replicate, slice_set}
use Rattle.std.proofs.lemmas.List.Filters.{FiltersInPlace}
use Rattle.model.specs.Limits.{Limits}
use Rattle.model.specs.Clock.{Clock}
use Rattle.model.specs.Put.{Put, Body, had}
use Rattle.model.specs.Delivery.{Delivery, ready, lacking, pruned, counted, Run}
use Rattle.model.specs.Store.{Store, stored}
use Rattle.model.specs.Replica.{Replica, moved}
use Rattle.puts.specs.Words.{Slot}
use Rattle.slots.specs.Image.{memory}
use Rattle.memory.specs.Image.{one, queue, ring, rows}
use Rattle.memory.specs.State.{with_waiting}
use Rattle.logs.specs.declared.Replica.{Replica as Lent}
use Rattle.logs.specs.State.{Held}

-- another state of delivery
abbrev pub with_delivery : Delivery Body → Replica → Replica
with_delivery d r = record { delivery = d; store = r.store }

-- after a count: of itself the replica knows its clock, and what all have leaves the log
abbrev pub followed : Replica → Replica
followed r =
    let d : Delivery Body = r.delivery in
    let ks : List Clock = slice_set d.known d.me d.clock in
    with_delivery (record { me = d.me; clock = d.clock; log = pruned ks d.log; waiting = d.waiting; known = ks }) r

-- a put is taken: counted and stored
abbrev pub took : Put Body → Replica → Replica
took p r = record { delivery = counted p r.delivery; store = stored p r.store }

-- a put, if it is ready: none or one
abbrev pub if_ready : Delivery Body → Put Body → List (Put Body)
if_ready d p = cond (ready d p) (p ∷ []) []

-- while waiting puts are taken, they stay in their slots: memory has a longer queue, of which the clock lacks what waits
pub record Unswept (l : Limits) (m : Run Body) (s : Store) (x : Lent) : Type 0 where
  pub all : List (Put Body)
  pub held : Held l (with_waiting all (moved m s)) x
  pub rest : lacking m.now.clock all ≡ m.now.waiting

-- THE QUEUE IN PLACE: a slot whose put the clock lacks stays
unfoldable pub keeps : Clock → Slot → Bool
keeps c [] = false
keeps c (p ∷ ps) = not (had c p)

-- the slots before the queue
unfoldable pub front : Limits → Replica → List Slot
front l r = r.store ++ ring l.log_most r.delivery.log

-- the first i of what waits are gone through, and the n of them that stay stand first
pub record Moved (l : Limits) (r : Replica) (m : List ℕ) (i n : ℕ) : Type 0 where
  pub slots : List Slot
  pub mem : m ≡ memory (rows l r.delivery) (front l r ++ slots)
  pub keeping : FiltersInPlace (keeps r.delivery.clock) (queue l.waiting_most r.delivery.waiting) slots n i

-- then the slots behind them are emptied, so far up to j
pub record Emptied (l : Limits) (r : Replica) (m : List ℕ) (j n : ℕ) : Type 0 where
  pub slots : List Slot
  pub mem : m ≡ memory (rows l r.delivery) (front l r ++ slots)
  pub size : length slots ≡ l.waiting_most
  pub count : n ≡ length (lacking r.delivery.clock r.delivery.waiting)
  pub before : take j slots ≡ map one (lacking r.delivery.clock r.delivery.waiting) ++ replicate (j - n) []
  pub back : drop (length r.delivery.waiting) slots ≡ replicate (l.waiting_most - length r.delivery.waiting) []
