use Rattle.std.proofs.Common.{refl, rules}
use Rattle.wire_out.proofs.Overs.{adds_first}
use Rattle.wire_out.proofs.event.write_tell.Goals as goal

pub returns : goal.returns
returns c = let done = adds_first c.byte.ensures refl in search rules
