use Rattle.given.proofs.Programs.{memory_bounded}
use Rattle.given.proofs.memory_bounded.Goals as goal

pub returns : goal.returns
returns c = memory_bounded
