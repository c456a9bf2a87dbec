-- Rounds of asking, carried out by calls on bytes. Definitions only.
use Rattle.std.specs.Prelude.{◌≡◌, ℕ, suc, ◌<◌, false, ◌≢◌, ◌⊎◌, List, [], ◌∷◌, Some, None, Option}
use Rattle.model.specs.Limits.{Limits}
use Rattle.model.specs.Clock.{Clock}
use Rattle.model.specs.Put.{Put, Body}
use Rattle.model.specs.Replica.{Answer, came, has, tell, clock_is}
use Rattle.model.specs.Cluster.{is_put, puts_of}
use Rattle.wire.specs.Reading.{read}
use Rattle.wire.specs.Answers.{read_answer}
use Rattle.endpoint.specs.Life.{System, Run, stop, then}

-- nobody puts
abbrev pub Calm : {l : Limits} {w v : System} → Run l w v → Type 0
Calm stop = Unit {0}
Calm (then i s m b h t a c r) = (is_put (read s) ≡ false) × Calm r

-- AN EXCHANGE: i tells its clock, later j hears it, later the puts of its answer come to i, in order; with any calls before, between and after.
-- The puts ps come to i
abbrev pub Comes : {l : Limits} → ℕ → List (Put Body) → {w v : System} → Run l w v → Type 0
Comes i [] r = Unit {0}
Comes i (p ∷ ps) stop = ⊥
Comes i (p ∷ ps) (then k s m b h t a c r) = ((k ≡ i) × (read s ≡ came p) × Comes i ps r) ⊎ Comes i (p ∷ ps) r

-- the puts in the answer that bytes are
abbrev pub puts_in : Option Answer → List (Put Body)
puts_in (Some a) = puts_of a
puts_in None = []

-- j hears that i has c, and the puts that it answers come to i
abbrev pub Hears : {l : Limits} {w v : System} → ℕ → ℕ → Clock → Run l w v → Type 0
Hears i j c stop = ⊥
Hears i j c (then k s m b h t a y r) = ((k ≡ j) × (read s ≡ has i c) × Comes i (puts_in (read_answer b)) r) ⊎ Hears i j c r

-- i tells its clock, and j hears it
abbrev pub Asks : {l : Limits} {w v : System} → ℕ → ℕ → Run l w v → Type 0
Asks i j stop = ⊥
Asks i j (then k s m b h t a y r) = ((k ≡ i) × (read s ≡ tell) × ((c : Clock) × (read_answer b ≡ Some (clock_is c)) × Hears i j c r)) ⊎ Asks i j r

-- A ROUND: calls, none of them a put, in which each replica asks each other one, in any order, also overlapping
pub record Round {l : Limits} {w v : System} (r : Run l w v) : Type 0 where
  pub calm : Calm r
  pub asks : (i j : ℕ) → i < l.replicas → j < l.replicas → i ≢ j → Asks i j r

-- n rounds from w to v
pub data Rounds (l : Limits) : ℕ → System → System → Type 0 where
  none : {w : System} → Rounds l 0 w w
  more : {w u v : System} {n : ℕ} (r : Run l w u) → Round r → Rounds l n u v → Rounds l (suc n) w v
