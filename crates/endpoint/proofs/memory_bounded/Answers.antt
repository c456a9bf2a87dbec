use Rattle.endpoint.proofs.Running.{within}
use Rattle.endpoint.proofs.memory_bounded.Goals as goal

pub returns : goal.returns
returns c = within
