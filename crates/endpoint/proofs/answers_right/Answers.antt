use Rattle.endpoint.proofs.Running.{right}
use Rattle.endpoint.proofs.answers_right.Goals as goal

pub returns : goal.returns
returns c = right
