use Rattle.replica.proofs.Running.{within}
use Rattle.replica.proofs.memory_bounded.Goals as goal

pub returns : goal.returns
returns c = within
