use Rattle.given.proofs.Statements.{causally_closed}
use Rattle.given.proofs.causally_closed.Goals as goal

pub returns : goal.returns
returns c = causally_closed
