use Rattle.given.proofs.Programs.{answers_right}
use Rattle.given.proofs.answers_right.Goals as goal

pub returns : goal.returns
returns c = answers_right
