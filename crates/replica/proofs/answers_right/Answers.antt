use Rattle.replica.proofs.Running.{right}
use Rattle.replica.proofs.answers_right.Goals as goal

pub returns : goal.returns
returns c = right
