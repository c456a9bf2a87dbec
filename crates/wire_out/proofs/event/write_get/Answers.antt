use Rattle.std.proofs.Common.{refl, rules}
use Rattle.wire_out.proofs.Overs.{then_adds, adds_first}
use Rattle.wire_out.proofs.event.write_get.Goals as goal

pub returns : goal.returns
returns c = let done = adds_first (then_adds c.byte.ensures c.number-2.ensures) refl in search rules
