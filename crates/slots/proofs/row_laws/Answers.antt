use Rattle.slots.proofs.Rows.{row_laws}
use Rattle.slots.proofs.row_laws.Goals as goal

pub returns : goal.returns
returns c = row_laws
