use Rattle.model.proofs.Orders.{rounds_happen}
use Rattle.model.proofs.rounds_happen.Goals as goal

pub returns : goal.returns
returns c = rounds_happen
