use Rattle.std.proofs.Common.{◌∷◌, ap}
use Rattle.wire_out.proofs.Overs.{then_wrote, wrote_first}
use Rattle.wire_out.proofs.Sizes.{puts_parts}
use Rattle.wire_out.proofs.theorems.puts_by_parts.Goals as goal

pub returns : goal.returns
returns c = record { parts = λ ps. ap (λ t. 1 ∷ t) (puts_parts ps); next = then_wrote; first = wrote_first }
