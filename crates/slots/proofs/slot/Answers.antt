use Rattle.slots.proofs.Slots.{first_is}
use Rattle.slots.proofs.slot.Goals as goal

pub returns : goal.returns
returns c = let a = c.in_ok-slot_place.ensures in first_is c.args.mem.now c.args.k (λ y. y.now) c.first_chunk.result c.in_ok-slot_place.field-0 a.0 a.1 c.first_chunk.ensures.cases
