use Rattle.model.proofs.Orders.{converges_by_list}
use Rattle.model.proofs.converges_by_list.Goals as goal

pub returns : goal.returns
returns c = converges_by_list
