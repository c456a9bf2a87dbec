use Rattle.given.proofs.Statements.{view_monotone}
use Rattle.given.proofs.view_monotone.Goals as goal

pub returns : goal.returns
returns c = view_monotone
