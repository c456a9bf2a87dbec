use Rattle.model.proofs.Converge.{converges_apart}
use Rattle.model.proofs.converges_apart.Goals as goal

pub returns : goal.returns
returns c = converges_apart
