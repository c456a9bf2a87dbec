use Rattle.given.proofs.Programs.{refusal_keeps_memory}
use Rattle.given.proofs.refusal_keeps_memory.Goals as goal

pub returns : goal.returns
returns c = refusal_keeps_memory
