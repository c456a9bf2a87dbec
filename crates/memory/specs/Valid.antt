-- The states whose image is faithful: every part has its place. Definitions only.
use Rattle.std.specs.Prelude.{◌≡◌, ℕ, ◌-◌, ◌<◌, ◌≤◌, ◌≢◌, List, [], ◌∷◌, length, slice_index_or}
use Rattle.model.specs.Limits.{Limits}
use Rattle.model.specs.Clock.{at}
use Rattle.model.specs.Put.{Put, Body, number, key_of}
use Rattle.model.specs.Delivery.{Delivery}
use Rattle.model.specs.Store.{Store}
use Rattle.model.specs.Replica.{Replica}
use Rattle.puts.specs.Values.{clock_size, Small, Fit}
use Rattle.puts.specs.Words.{Slot}
use Rattle.memory.specs.Layout.{code_limits, InRange}

-- a put that a replica can have
pub record Sound (l : Limits) (p : Put Body) : Type 0 where
  pub fit : Fit p
  pub key : key_of p.body < l.keys
  pub from : p.from < l.replicas
  pub seen : length p.seen ≡ l.replicas
  pub small : Small p.seen

-- none, or one such put
unfoldable pub SoundSlot : Limits → Slot → Type 0
SoundSlot l [] = Unit {0}
SoundSlot l (p ∷ ps) = Sound l p × (ps ≡ [])

-- each of some puts
abbrev pub AllSound : Limits → List (Put Body) → Type 0
AllSound l ps = (k : ℕ) (d : Put Body) → k < length ps → Sound l (slice_index_or ps k d)

-- the store: a slot for each key
pub record FitsStore (l : Limits) (s : Store) : Type 0 where
  pub keys : length s ≡ l.keys
  pub stands : (k : ℕ) → k < length s → SoundSlot l (slice_index_or s k [])

-- delivery: every part fits its place
pub record FitsDelivery (l : Limits) (d : Delivery Body) : Type 0 where
  pub replicas : l.replicas ≤ clock_size
  pub me : d.me < l.replicas
  pub clock : length d.clock ≡ l.replicas
  pub small : Small d.clock
  pub known : length d.known ≡ l.replicas
  pub each : (k : ℕ) → k < l.replicas → length (slice_index_or d.known k []) ≡ l.replicas
  pub each_small : (k : ℕ) → k < l.replicas → Small (slice_index_or d.known k [])
  pub room : length d.waiting ≤ l.waiting_most
  pub waits : AllSound l d.waiting
  pub logs : AllSound l d.log

-- both
pub record Fits (l : Limits) (r : Replica) : Type 0 where
  pub delivery : FitsDelivery l r.delivery
  pub store : FitsStore l r.store

-- own puts, with the numbers from k downwards
unfoldable pub Down : ℕ → ℕ → List (Put Body) → Type 0
Down me k [] = Unit {0}
Down me k (p ∷ ps) = ((p.from ≡ me) × (number p ≡ k)) × Down me (k - 1) ps

-- the log is the end of what was made here, and nothing of it waits
pub record Shaped (l : Limits) (d : Delivery Body) : Type 0 where
  pub down : Down d.me (at d.clock d.me) d.log
  pub room : length d.log ≤ l.log_most
  pub some : 0 < l.log_most
  pub others : (k : ℕ) (p : Put Body) → k < length d.waiting → (slice_index_or d.waiting k p).from ≢ d.me

-- a state as any accepted events leave it
pub record Valid (l : Limits) (r : Replica) : Type 0 where
  pub fits : Fits l r
  pub shaped : Shaped l r.delivery
  pub few : InRange (code_limits l)
