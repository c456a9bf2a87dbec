-- What is true of every life of a cluster, in bytes, memory and answers. A function of src/ has each as its contract.
use Rattle.std.specs.Prelude.{◌≡◌, ℕ, ◌*◌, ◌<◌, ◌≤◌, true, List, [], ◌∷◌, length}
use Rattle.model.specs.Lists.{In}
use Rattle.model.specs.Limits.{Limits}
use Rattle.model.specs.Clock.{Clock, below}
use Rattle.model.specs.Put.{Put, Body, had}
use Rattle.model.specs.Store.{of_key, latest}
use Rattle.model.specs.Replica.{put, get, tell, puts, value, clock_is}
use Rattle.model.specs.Cluster.{Brought}
use Rattle.wire.specs.Reading.{read}
use Rattle.memory.specs.Layout.{InRange, code_limits, words}
use Rattle.calls.specs.Answered.{AllSupported}
use Rattle.endpoint.specs.Call.{Calls}
use Rattle.endpoint.specs.Life.{System, Started, Lent, Life, Answers, Says, moved}
use Rattle.endpoint.specs.Rounds.{Rounds}

-- replica i tells that its clock is c
pub record Tells (w : System) (i : ℕ) (c : Clock) : Type 0 where
  pub bytes : List ℕ
  pub answers : Answers w i tell bytes
  pub says : Says bytes (clock_is c)

-- OF ONE REPLICA i of w
pub record Lives (l : Limits) (w : System) (i : ℕ) : Type 0 where
  -- every tell is answered with a clock: what the replica has
  pub tells : (b : List ℕ) → Answers w i tell b → (c : Clock) × Says b (clock_is c)
  -- a get is answered with the latest of all puts made at that key that it has, or with none, if it has none
  pub shows_latest : (c : Clock) (k : ℕ) (b : List ℕ) → Tells w i c → k < l.keys → Answers w i (get k) b → Says b (value (latest (of_key k c w.made)))
  -- with a put it has all that its writer had seen
  pub closed :
      (c : Clock) (p : Put Body) → Tells w i c → In p w.made → had c p ≡ true →
      (below p.seen c ≡ true) × ((q : Put Body) → In q w.made → had p.seen q ≡ true → had c q ≡ true)
  -- and all that it made itself
  pub own : (c : Clock) (p : Put Body) → Tells w i c → In p w.made → p.from ≡ i → had c p ≡ true
  -- a put that it makes had seen what the replica has, and no more
  pub stamps : (c : Clock) (x : Body) (b : List ℕ) (ps : List (Put Body)) → Tells w i c → Answers w i (put x) b → Says b (puts ps) → ps ≡ record { from = i; seen = c; body = x } ∷ []

-- OF TWO: those with the same clock answer the same to every get, byte for byte
abbrev pub SameView : System → ℕ → ℕ → Type 0
SameView w i j = (k : ℕ) (x y : List ℕ) → Answers w i (get k) x → Answers w j (get k) y → x ≡ y

-- ANY LIFE
pub record LifeRight (l : Limits) (w : System) : Type 0 where
  pub each : (i : ℕ) → i < l.replicas → Lives l w i
  pub same : (i j : ℕ) (t : List ℕ) → i < l.replicas → j < l.replicas → Answers w i tell t → Answers w j tell t → SameView w i j

abbrev pub EveryLifeRight : Type 0
EveryLifeRight = (l : Limits) (w : System) → Life l w → LifeRight l w

-- ONE CALL IN A LIFE of the cluster w: replica i was called with the bytes s, which left m and were answered by b
pub record LivesOn (l : Limits) (w : System) (i : ℕ) (s m b : List ℕ) : Type 0 where
  -- the life goes on, and what is true of every life is true then
  pub life : Life l (moved w i s m b)
  pub right : LifeRight l (moved w i s m b)
  -- a get was answered with the latest of all puts made at that key that the replica has
  pub shows_latest : (c : Clock) (k : ℕ) → read s ≡ get k → k < l.keys → Tells w i c → Says b (value (latest (of_key k c w.made)))

-- whichever life it is in which the memory m is a replica's, and the network brought these bytes
abbrev pub InEveryLife : (m s m' b : List ℕ) → Type 0
InEveryLife m s m' b =
    (l : Limits) (w : System) (i : ℕ) → Life l w → i < l.replicas → w.memory i ≡ m → Brought w.made w.told (read s) → LivesOn l w i s m' b

-- AFTER THE ROUNDS all tell the same clock, and answer the same to every get, byte for byte
pub record AllTheSame (l : Limits) (v : System) : Type 0 where
  pub clocks : (i j : ℕ) (x y : List ℕ) → i < l.replicas → j < l.replicas → Answers v i tell x → Answers v j tell y → x ≡ y
  pub views : (i j : ℕ) → i < l.replicas → j < l.replicas → SameView v i j

-- as many rounds as replicas times the puts of a log
abbrev pub LivesConverge : Type 0
LivesConverge = (l : Limits) (w v : System) (n : ℕ) → Life l w → l.replicas * l.log_most ≤ n → Rounds l n w v → AllTheSame l v

-- LIVES HAPPEN, so that none of this speaks of nothing
pub record LivesHappen : Type 0 where
  -- limits in range can be opened, in the words that they take
  pub begins : (l : Limits) → AllSupported l → InRange (code_limits l) → (w : System) × Started l w × ((i : ℕ) → i < l.replicas → length (w.memory i) ≡ words l)
  -- in any life any bytes can come to any replica: there is an outcome that the contract of `call` allows
  pub goes_on : (l : Limits) (w : System) (i : ℕ) (s : List ℕ) → Life l w → i < l.replicas → Lent s → (m : List ℕ) × ((b : List ℕ) × Calls (w.memory i) s m b)
  -- and only one
  pub one_way :
      (l : Limits) (w : System) (i : ℕ) (s m b m' b' : List ℕ) → Life l w → i < l.replicas → Calls (w.memory i) s m b → Calls (w.memory i) s m' b' →
      (m ≡ m') × (b ≡ b')
