use Rattle.memory.proofs.State.{reads}
use Rattle.memory.proofs.state_read.Goals as goal

pub returns : goal.returns
returns c = reads
