use Rattle.endpoint.proofs.Converge.{lives_converge}
use Rattle.endpoint.proofs.lives_converge.Goals as goal

pub returns : goal.returns
returns c = lives_converge
