use Rattle.model.proofs.Orders.{converges_in_order}
use Rattle.model.proofs.converges_in_order.Goals as goal

pub returns : goal.returns
returns c = converges_in_order
