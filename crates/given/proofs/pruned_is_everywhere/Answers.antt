use Rattle.given.proofs.Statements.{pruned_is_everywhere}
use Rattle.given.proofs.pruned_is_everywhere.Goals as goal

pub returns : goal.returns
returns c = pruned_is_everywhere
