use Rattle.endpoint.proofs.Running.{kept}
use Rattle.endpoint.proofs.refusal_keeps_memory.Goals as goal

pub returns : goal.returns
returns c = kept
