use Rattle.given.proofs.Statements.{reads_own_put}
use Rattle.given.proofs.reads_own_put.Goals as goal

pub returns : goal.returns
returns c = reads_own_put
