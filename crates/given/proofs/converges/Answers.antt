use Rattle.given.proofs.Statements.{converges}
use Rattle.given.proofs.converges.Goals as goal

pub returns : goal.returns
returns c = converges
