use Rattle.model.proofs.Replica.{again_changes_nothing}
use Rattle.model.proofs.again_changes_nothing.Goals as goal

pub returns : goal.returns
returns c = again_changes_nothing
