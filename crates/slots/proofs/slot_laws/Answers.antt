use Rattle.slots.proofs.Slots.{slot_laws}
use Rattle.slots.proofs.slot_laws.Goals as goal

pub returns : goal.returns
returns c = slot_laws
