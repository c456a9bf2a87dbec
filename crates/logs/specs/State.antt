-- A state in its memory, and where its parts lie. Definitions only.
use Rattle.std.specs.Prelude.{◌≡◌, ℕ, ◌+◌, ◌*◌, List, take, drop}
use Rattle.model.specs.Limits.{Limits}
use Rattle.model.specs.Replica.{Replica as ModelReplica}
use Rattle.puts.specs.Words.{slot_size}
use Rattle.slots.specs.Image.{header_size}
use Rattle.memory.specs.Image.{encode}
use Rattle.memory.specs.Valid.{Fits, Valid}
use Rattle.logs.specs.declared.place.Place.{Place}
use Rattle.logs.specs.declared.Replica.{Replica}
use Rattle.logs.specs.declared.View.{View}

-- WHERE THE PARTS LIE: as the limits say, and which replica this is
pub record Laid (l : Limits) (i : ℕ) (x : Place) : Type 0 where
  pub replicas : x.replicas ≡ l.replicas
  pub me : x.me ≡ i
  pub log : (x.layout.log.base ≡ l.keys) × (x.layout.log.count ≡ l.log_most)
  pub waiting : (x.layout.waiting.base ≡ l.keys + l.log_most) × (x.layout.waiting.count ≡ l.waiting_most)

-- the words that it takes
abbrev pub words_at : Place → ℕ
words_at x = header_size + slot_size * (x.layout.waiting.base + x.layout.waiting.count)

-- MEMORY THAT IS THE IMAGE of a state each part of which has its place; the log may be between two shapes
pub record Fitted (l : Limits) (r : ModelReplica) (m : List ℕ) : Type 0 where
  pub fits : Fits l r
  pub mem : m ≡ encode l r

-- and of a valid one
pub record Holds (l : Limits) (r : ModelReplica) (m : List ℕ) : Type 0 where
  pub valid : Valid l r
  pub mem : m ≡ encode l r

-- A STATE IN MEMORY at a place: that is its image, and its parts lie there as the limits say
pub record StandsIn (l : Limits) (r : ModelReplica) (m : List ℕ) (x : Place) : Type 0 where
  pub fitted : Fitted l r m
  pub laid : Laid l r.delivery.me x

-- and a valid one
pub record HeldIn (l : Limits) (r : ModelReplica) (m : List ℕ) (x : Place) : Type 0 where
  pub holds : Holds l r m
  pub laid : Laid l r.delivery.me x

-- A REPLICA IN ITS MEMORY: that is the image of a state, and its parts lie as the limits say
abbrev pub Stands : Limits → ModelReplica → Replica → Type 0
Stands l r x = StandsIn l r x.mem.now x.at

-- and of a valid one
abbrev pub Held : Limits → ModelReplica → Replica → Type 0
Held l r x = HeldIn l r x.mem.now x.at

-- THE SAME WHERE IT IS ONLY READ
abbrev pub Seen : Limits → ModelReplica → View → Type 0
Seen l r x = StandsIn l r x.mem.now x.at

abbrev pub SeenValid : Limits → ModelReplica → View → Type 0
SeenValid l r x = HeldIn l r x.mem.now x.at

-- the memory that was lent and the place in it are still the same
pub record Same (x y : Replica) : Type 0 where
  pub mem : y.mem.ghost_name ≡ x.mem.ghost_name
  pub at : y.at ≡ x.at

-- none or one: the i-th of some
abbrev pub nth_of : {A : Type 0} → List A → ℕ → List A
nth_of xs i = take 1 (drop i xs)
