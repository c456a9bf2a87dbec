use Rattle.replica.proofs.Running.{kept}
use Rattle.replica.proofs.refusal_keeps_memory.Goals as goal

pub returns : goal.returns
returns c = kept
