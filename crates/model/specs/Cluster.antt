-- All replicas together, over a network that delays, repeats and loses messages. Definitions only.
use Rattle.std.specs.Prelude.{ℕ, ◌<◌, Bool, true, false, cond, List, [], ◌∷◌, ◌++◌, ◌==◌}
use Rattle.model.specs.Lists.{In}
use Rattle.model.specs.Limits.{Limits}
use Rattle.model.specs.Clock.{Clock}
use Rattle.model.specs.Put.{Put, Body}
use Rattle.model.specs.Replica.{Replica, new_replica, clock_of, Event, put, get, came, has, tell, garbled, Answer, refused, puts, value, clock_is, answer, after}

-- what a replica told of itself
pub record Told : Type 0 where
  pub who : ℕ
  pub clock : Clock

-- the replicas, and what the network may bring
pub record Cluster : Type 0 where
  pub replica : ℕ → Replica  -- by number, below the limit
  pub made : List (Put Body)  -- all puts that were ever made, the last first
  pub told : List Told  -- and all that replicas ever told

-- all replicas as they are opened
abbrev pub new_cluster : Limits → Cluster
new_cluster l = record { replica = new_replica l; made = []; told = [] }

-- the clock of replica i
abbrev pub clock_at : Cluster → ℕ → Clock
clock_at w i = clock_of (w.replica i)

-- f, but x at i
abbrev pub update : {A : Type 0} → (ℕ → A) → ℕ → A → ℕ → A
update f i x j = cond (i == j) x (f j)

-- an event that makes a put
unfoldable pub is_put : Event → Bool
is_put (put b) = true
is_put (get k) = false
is_put (came p) = false
is_put (has j c) = false
is_put tell = false
is_put (garbled n) = false

-- the puts in an answer
unfoldable pub puts_of : Answer → List (Put Body)
puts_of (refused n k) = []
puts_of (puts ps) = ps
puts_of (value ps) = []
puts_of (clock_is c) = []

-- an accepted put makes what it answers
abbrev pub made_by : Event → Answer → List (Put Body)
made_by e a = cond (is_put e) (puts_of a) []

-- what replica i tells by an answer
unfoldable pub told_by : ℕ → Answer → List Told
told_by i (refused n k) = []
told_by i (puts ps) = []
told_by i (value ps) = []
told_by i (clock_is c) = record { who = i; clock = c } ∷ []

-- an event happens at replica i
abbrev pub stepped : Limits → Cluster → ℕ → Event → Cluster
stepped l w i e =
    let a : Answer = answer l (w.replica i) e in
    record { replica = update w.replica i (after l (w.replica i) e); made = made_by e a ++ w.made; told = told_by i a ++ w.told }

-- All that is assumed of the network: a put that comes was made, and a clock that is heard was told. Each may come late, again or never.
abbrev pub Allowed : Cluster → Event → Type 0
Allowed w (put b) = Unit {0}
Allowed w (get k) = Unit {0}
Allowed w (came p) = In p w.made
Allowed w (has j c) = In (record { who = j; clock = c }) w.told
Allowed w tell = Unit {0}
Allowed w (garbled n) = Unit {0}

-- the same of what was made and told by anybody
abbrev pub Brought : List (Put Body) → List Told → Event → Type 0
Brought made told (put b) = Unit {0}
Brought made told (get k) = Unit {0}
Brought made told (came p) = In p made
Brought made told (has j c) = In (record { who = j; clock = c }) told
Brought made told tell = Unit {0}
Brought made told (garbled n) = Unit {0}

-- what can become of the replicas
pub data Reachable (l : Limits) : Cluster → Type 0 where
  start : Reachable l (new_cluster l)
  step : {w : Cluster} (i : ℕ) (e : Event) → Reachable l w → i < l.replicas → Allowed w e → Reachable l (stepped l w i e)

-- the events that replica j had on the way, the last first
unfoldable pub trace : (l : Limits) {w : Cluster} → Reachable l w → ℕ → List Event
trace l start j = []
trace l (step i e x b a) j = cond (i == j) (e ∷ trace l x j) (trace l x j)
