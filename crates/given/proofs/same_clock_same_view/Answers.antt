use Rattle.given.proofs.Statements.{same_clock_same_view}
use Rattle.given.proofs.same_clock_same_view.Goals as goal

pub returns : goal.returns
returns c = same_clock_same_view
