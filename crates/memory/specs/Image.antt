-- The memory of a replica as one total function of its state. Words that are not used are 0. Definitions only.
use Rattle.std.specs.Prelude.{ℕ, ◌-◌, ◌%◌, List, [], ◌∷◌, ◌++◌, map, length, replicate, slice_set}
use Rattle.model.specs.Limits.{Limits}
use Rattle.model.specs.Put.{Put, Body, number}
use Rattle.model.specs.Delivery.{Delivery}
use Rattle.model.specs.Replica.{Replica}
use Rattle.puts.specs.Words.{Slot}
use Rattle.slots.specs.Image.{row_count, memory}
use Rattle.memory.specs.Layout.{code_limits, known_place, first_row}

-- THE ROWS OF THE HEADER: sizes and limits
abbrev pub sizes : Limits → Delivery Body → List ℕ
sizes l d = first_row (length d.waiting) (length d.log) d.me (code_limits l)

-- so many rows are left for what is known
abbrev pub known_rows : ℕ
known_rows = row_count - known_place

-- sizes, the clock, and what each replica is known to have
unfoldable pub rows : Limits → Delivery Body → List (List ℕ)
rows l d = sizes l d ∷ d.clock ∷ (d.known ++ replicate (known_rows - length d.known) [])

-- THE SLOTS: one put
abbrev pub one : Put Body → Slot
one p = p ∷ []

-- the puts that wait, one after the other, in n slots
unfoldable pub queue : ℕ → List (Put Body) → List Slot
queue n ps = map one ps ++ replicate (n - length ps) []

-- the puts of the log in n slots, each in the slot of its number modulo how many there are
unfoldable pub ring : ℕ → List (Put Body) → List Slot
ring n [] = replicate n []
ring n (p ∷ ps) = slice_set (ring n ps) (number p % n) (one p)

-- region after region: what stands at the keys, the log, what waits
unfoldable pub slots : Limits → Replica → List Slot
slots l r = (r.store ++ ring l.log_most r.delivery.log) ++ queue l.waiting_most r.delivery.waiting

-- THE IMAGE
unfoldable pub encode : Limits → Replica → List ℕ
encode l r = memory (rows l r.delivery) (slots l r)
