use Rattle.memory.proofs.State.{writes}
use Rattle.memory.proofs.state_written.Goals as goal

pub returns : goal.returns
returns c = writes
