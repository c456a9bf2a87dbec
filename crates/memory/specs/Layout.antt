-- Where the parts of a replica lie in its memory: a header, then the regions of slots for keys, log and waiting. Definitions only.
use Rattle.std.specs.Prelude.{ℕ, ◌+◌, ◌*◌, ◌<◌, ◌≤◌, Bool, List, [], ◌∷◌, length, slice_index}
use Rattle.model.specs.Limits.{Limits}
use Rattle.puts.specs.Words.{slot_size}
use Rattle.slots.specs.Image.{header_size, row_at}
use Rattle.memory.specs.declared.Limits.{Limits as CodeLimits}
use Rattle.memory.specs.declared.Layout.{Layout}
use Rattle.puts.specs.declared.event.Refusal.{Refusal}

-- the limits of the code for those of the model
abbrev pub code_limits : Limits → CodeLimits
code_limits l = record { replicas = l.replicas; keys = l.keys; log = l.log_most; waiting = l.waiting_most }

-- and back, for a build that supports the events `can`
abbrev pub model_limits : (ℕ → Bool) → CodeLimits → Limits
model_limits can x = record { supports = can; replicas = x.replicas; keys = x.keys; log_most = x.log; waiting_most = x.waiting }

-- limits in range
pub record InRange (x : CodeLimits) : Type 0 where
  pub replicas : (1 ≤ x.replicas) × (x.replicas ≤ 16)
  pub keys : (1 ≤ x.keys) × (x.keys ≤ 4096)
  pub log : (1 ≤ x.log) × (x.log ≤ 1024)
  pub waiting : x.waiting ≤ 1024

-- THE REGIONS, here and nowhere else: of each the first slot, and how many there are
abbrev pub layout_of : CodeLimits → Layout
layout_of x =
    record {
      keys = record { base = 0; count = x.keys };
      log = record { base = x.keys; count = x.log };
      waiting = record { base = x.keys + x.log; count = x.waiting };
    }

-- and the words of them all
abbrev pub total : CodeLimits → ℕ
total x = header_size + slot_size * (x.keys + x.log + x.waiting)

-- the words of a replica
abbrev pub words : Limits → ℕ
words l = total (code_limits l)

-- THE ROWS OF THE HEADER, here and nowhere else. The first: the sizes of queue and log, who this is, the limits
abbrev pub first_row : ℕ → ℕ → ℕ → CodeLimits → List ℕ
first_row waiting log me x = waiting ∷ log ∷ me ∷ x.replicas ∷ x.keys ∷ x.log ∷ x.waiting ∷ []

-- the rows after it: the clock
abbrev pub clock_place : ℕ
clock_place = 1

-- and what replica 0 is known to have, with one for each replica
abbrev pub known_place : ℕ
known_place = 2

-- the words of it: how many puts wait
abbrev pub waiting_size_place : ℕ
waiting_size_place = 0

-- how many are in the log
abbrev pub log_size_place : ℕ
log_size_place = 1

-- who this is
abbrev pub me_place : ℕ
me_place = 2

-- how many replicas there are
abbrev pub replicas_place : ℕ
replicas_place = 3

-- how many keys
abbrev pub keys_place : ℕ
keys_place = 4

-- how many puts the log may have
abbrev pub log_place : ℕ
log_place = 5

-- how many may wait
abbrev pub waiting_place : ℕ
waiting_place = 6

-- WHAT A ROW SAYS: the limits
abbrev pub limits_in : List ℕ → CodeLimits
limits_in row = record { replicas = slice_index row replicas_place; keys = slice_index row keys_place; log = slice_index row log_place; waiting = slice_index row waiting_place }

-- what the first row of any memory says: the limits
abbrev pub limits_at : List ℕ → CodeLimits
limits_at m = limits_in (row_at 0 m)

-- and who this is
abbrev pub me_at : List ℕ → ℕ
me_at m = slice_index (row_at 0 m) me_place

-- memory enough for a replica with these limits
pub record Room (x : CodeLimits) (i : ℕ) (m : List ℕ) : Type 0 where
  pub limits : InRange x
  pub me : i < x.replicas
  pub words : total x ≤ length m

-- such a refusal, by its number: out of range
abbrev pub out_of_range : Refusal
out_of_range = record { number = 2; place = 0 }
