use Rattle.given.proofs.Statements.{later_is_total}
use Rattle.given.proofs.later_is_total.Goals as goal

pub returns : goal.returns
returns c = later_is_total
