use Rattle.std.proofs.Common.{refl, rules}
use Rattle.wire.specs.Bytes.{write_puts}
use Rattle.wire_out.proofs.Overs.{adds_first}
use Rattle.wire_out.proofs.answers.write_none.Goals as goal

pub returns-in_err-room : goal.returns-in_err-room
unfolding write_puts
returns-in_err-room c = search rules

pub returns : goal.returns
unfolding write_puts
returns c = let done = adds_first c.bytes.ensures refl in search rules
