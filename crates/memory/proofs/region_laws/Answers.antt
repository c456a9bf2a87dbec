use Rattle.memory.proofs.Images.{region_laws}
use Rattle.memory.proofs.region_laws.Goals as goal

pub returns : goal.returns
returns c = region_laws
