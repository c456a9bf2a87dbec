-- What is proved of the layout and the image.
use Rattle.std.specs.Prelude.{◌≡◌, ℕ, ◌+◌, ◌*◌, ◌^◌, ◌<◌, Bool, true, List, ◌++◌, length, drop, Result, MatchResult, slice_set}
use Rattle.std.specs.List.{AllByRecursion}
use Rattle.model.specs.Limits.{Limits}
use Rattle.model.specs.Put.{Put, Body, value_of}
use Rattle.model.specs.Replica.{Replica, new_replica, came, in_range}
use Rattle.puts.specs.Values.{Bytes}
use Rattle.puts.specs.Words.{Slot, slot_words}
use Rattle.slots.specs.Image.{memory, with_slot}
use Rattle.memory.specs.declared.Limits.{Limits as CodeLimits}
use Rattle.memory.specs.declared.Layout.{Layout}
use Rattle.memory.specs.declared.OutOfRange.{OutOfRange}
use Rattle.memory.specs.Layout.{code_limits, model_limits, layout_of, total, words, InRange, me_at, limits_at, Room}
use Rattle.memory.specs.Image.{queue, ring, rows, encode}
use Rattle.memory.specs.Valid.{Sound, Fits, Valid}

-- the words of a layout
abbrev pub WordsOfLayout : Type 0
WordsOfLayout = (l : Limits) → words l ≡ 32 * (l.keys + l.log_most + l.waiting_most) + 512

-- an image has them
abbrev pub ImageSize : Type 0
ImageSize = (l : Limits) (r : Replica) → Valid l r → length (encode l r) ≡ words l

-- each below 2^64
abbrev pub WordsFit : Type 0
WordsFit = (l : Limits) (r : Replica) → Valid l r → AllByRecursion (λ w. w < 2 ^ 64) (encode l r)

-- no two states have one image
abbrev pub ImageFaithful : Type 0
ImageFaithful = (l m : Limits) (r s : Replica) → Valid l r → Valid m s → encode l r ≡ encode m s → (code_limits l ≡ code_limits m) × (r ≡ s)

-- slot i of a region is written: that element changes, and nothing else
pub record RegionLaws : Type 0 where
  pub keys : (l : Limits) (r : Replica) (i : ℕ) (x : Slot) → Fits l r → i < (layout_of (code_limits l)).keys.count →
      with_slot ((layout_of (code_limits l)).keys.base + i) (slot_words x) (encode l r) ≡ memory (rows l r.delivery) ((slice_set r.store i x ++ ring l.log_most r.delivery.log) ++ queue l.waiting_most r.delivery.waiting)
  pub log : (l : Limits) (r : Replica) (i : ℕ) (x : Slot) → Fits l r → i < (layout_of (code_limits l)).log.count →
      with_slot ((layout_of (code_limits l)).log.base + i) (slot_words x) (encode l r) ≡ memory (rows l r.delivery) ((r.store ++ slice_set (ring l.log_most r.delivery.log) i x) ++ queue l.waiting_most r.delivery.waiting)
  pub waiting : (l : Limits) (r : Replica) (i : ℕ) (x : Slot) → Fits l r → i < (layout_of (code_limits l)).waiting.count →
      with_slot ((layout_of (code_limits l)).waiting.base + i) (slot_words x) (encode l r) ≡ memory (rows l r.delivery) ((r.store ++ ring l.log_most r.delivery.log) ++ slice_set (queue l.waiting_most r.delivery.waiting) i x)

-- a put that came and passes the range checks is one that a replica can have
abbrev pub CameIsSound : Type 0
CameIsSound = (l : Limits) (p : Put Body) → InRange (code_limits l) → Bytes (value_of p.body) → in_range l (came p) ≡ true → Sound l p

-- opening: the first words are the image of a new replica, which is valid; the rest is as it was
pub record Opened (x : CodeLimits) (me : ℕ) (before after : List ℕ) : Type 0 where
  pub room : Room x me before
  pub valid : (can : ℕ → Bool) → Valid (model_limits can x) (new_replica (model_limits can x) me)
  pub image : (can : ℕ → Bool) → after ≡ encode (model_limits can x) (new_replica (model_limits can x) me) ++ drop (total x) before

-- or a refusal, if there is no room: then the memory is as it was
abbrev pub Opening : CodeLimits → ℕ → List ℕ → List ℕ → Result Layout OutOfRange → Type 0
Opening x me before after r =
    MatchResult r (λ a. (a ≡ layout_of x) × Opened x me before after) (λ _. (Room x me before → ⊥) × (after ≡ before))

-- the limits and the number that the header of a memory says, or a refusal, if there is no room for such a replica
abbrev pub HeaderSays : List ℕ → Result (CodeLimits × ℕ) OutOfRange → Type 0
HeaderSays m r =
    MatchResult r (λ x. (x ≡ (limits_at m, me_at m)) × Room x.0 x.1 m) (λ _. Room (limits_at m) (me_at m) m → ⊥)
