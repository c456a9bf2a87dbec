-- Runs without new puts, in which replicas ask each other for what they lack. Definitions only.
use Rattle.std.specs.Prelude.{◌≡◌, ℕ, zero, suc, ◌<◌, false, ◌≢◌, ◌⊎◌, List, [], ◌∷◌, ◌++◌, map}
use Rattle.model.specs.Lists.{In}
use Rattle.model.specs.Limits.{Limits}
use Rattle.model.specs.Clock.{Clock}
use Rattle.model.specs.Put.{Put, Body}
use Rattle.model.specs.Replica.{Event, came, has, tell, answer}
use Rattle.model.specs.Cluster.{Cluster, clock_at, is_put, puts_of, stepped, Allowed}

-- an event at a replica
pub record Turn : Type 0 where
  pub who : ℕ
  pub event : Event

abbrev pub turn : ℕ → Event → Turn
turn i e = record { who = i; event = e }

-- the cluster after a turn
abbrev pub next : Limits → Cluster → Turn → Cluster
next l w t = stepped l w t.who t.event

-- the cluster after some turns, the first first
unfoldable pub ran : Limits → Cluster → List Turn → Cluster
ran l w [] = w
ran l w (t ∷ ts) = ran l (next l w t) ts

-- each turn may happen where it stands, and none is a put
abbrev pub Calm : Limits → Cluster → List Turn → Type 0
Calm l w [] = Unit {0}
Calm l w (t ∷ ts) = (t.who < l.replicas) × Allowed w t.event × (is_put t.event ≡ false) × Calm l (next l w t) ts

-- AN EXCHANGE: i tells its clock, later j hears it, later the puts of its reply come to i, in order; with any turns before, between and after.
-- The puts ps come to i in a run
abbrev pub Comes : ℕ → List (Put Body) → List Turn → Type 0
Comes i [] ts = Unit {0}
Comes i (p ∷ ps) [] = ⊥
Comes i (p ∷ ps) (t ∷ ts) = ((t ≡ turn i (came p)) × Comes i ps ts) ⊎ Comes i (p ∷ ps) ts

-- in a run from w, j hears that i has c, and its reply comes
abbrev pub Hears : Limits → ℕ → ℕ → Clock → Cluster → List Turn → Type 0
Hears l i j c w [] = ⊥
Hears l i j c w (t ∷ ts) = ((t ≡ turn j (has i c)) × Comes i (puts_of (answer l (w.replica j) (has i c))) ts) ⊎ Hears l i j c (next l w t) ts

-- in a run from w, i asks j
abbrev pub Asks : Limits → ℕ → ℕ → Cluster → List Turn → Type 0
Asks l i j w [] = ⊥
Asks l i j w (t ∷ ts) = ((t ≡ turn i tell) × Hears l i j (clock_at w i) (next l w t) ts) ⊎ Asks l i j (next l w t) ts

-- A ROUND: a calm run in which each replica asks each other one, in any order, also overlapping
pub record Round (l : Limits) (w : Cluster) (ts : List Turn) : Type 0 where
  pub calm : Calm l w ts
  pub asks : (i j : ℕ) → i < l.replicas → j < l.replicas → i ≢ j → Asks l i j w ts

-- rounds, one after the other
abbrev pub Rounds : Limits → Cluster → List (List Turn) → Type 0
Rounds l w [] = Unit {0}
Rounds l w (ts ∷ rs) = Round l w ts × Rounds l (ran l w ts) rs

-- the cluster after them
unfoldable pub ran_all : Limits → Cluster → List (List Turn) → Cluster
ran_all l w [] = w
ran_all l w (ts ∷ rs) = ran_all l (ran l w ts) rs

-- NOTHING IN BETWEEN: the turns of one exchange from w
abbrev pub ask : Limits → ℕ → ℕ → Cluster → List Turn
ask l i j w =
    let e : Event = has i (clock_at w i) in
    turn i tell ∷ turn j e ∷ map (λ p. turn i (came p)) (puts_of (answer l ((stepped l w i tell).replica j) e))

-- who asks whom
pub record Pair : Type 0 where
  pub asker : ℕ
  pub asked : ℕ

-- the turns of some exchanges, one after the other
unfoldable pub ask_all : Limits → List Pair → Cluster → List Turn
ask_all l [] w = []
ask_all l (a ∷ asks) w = ask l a.asker a.asked w ++ ask_all l asks (ran l w (ask l a.asker a.asked w))

-- every pair in range, and each replica with each other one, in any order
pub record Covers (l : Limits) (asks : List Pair) : Type 0 where
  pub valid : (a : Pair) → In a asks → (a.asker < l.replicas) × (a.asked < l.replicas)
  pub whole : (i j : ℕ) → i < l.replicas → j < l.replicas → i ≢ j → In (record { asker = i; asked = j }) asks

-- the cluster after all of them, n times
unfoldable pub ask_rounds : ℕ → Limits → List Pair → Cluster → Cluster
ask_rounds zero l asks w = w
ask_rounds (suc n) l asks w = ask_rounds n l asks (ran l w (ask_all l asks w))

-- all pairs in a fixed order: askers below n, each asking all below m, the largest first
unfoldable pub asks_below : ℕ → ℕ → List Pair
asks_below i zero = []
asks_below i (suc j) = record { asker = i; asked = j } ∷ asks_below i j

unfoldable pub all_pairs : ℕ → ℕ → List Pair
all_pairs m zero = []
all_pairs m (suc i) = asks_below i m ++ all_pairs m i

-- LESS IS ENOUGH: runs from w to v, of which each exchange may have its own
abbrev pub Way : Limits → Cluster → Cluster → (List Turn → Type 0) → Type 0
Way l w v P = (ts : List Turn) × Calm l w ts × (ran l w ts ≡ v) × P ts

pub record RoundApart (l : Limits) (w v : Cluster) : Type 0 where
  pub way : Way l w v (λ ts. Unit {0})
  pub asks : (i j : ℕ) → i < l.replicas → j < l.replicas → i ≢ j → Way l w v (Asks l i j w)

-- n such rounds from w to v, and anything calm after them
abbrev pub RoundsApart : Limits → ℕ → Cluster → Cluster → Type 0
RoundsApart l zero w v = Way l w v (λ ts. Unit {0})
RoundsApart l (suc n) w v = (u : Cluster) × RoundApart l w u × RoundsApart l n u v
