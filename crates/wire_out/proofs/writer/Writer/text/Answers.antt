use Rattle.wire_out.proofs.Overs.{then_adds}
use Rattle.wire_out.proofs.writer.Writer.text.Goals as goal

pub returns : goal.returns
returns c = then_adds c.byte.ensures (then_adds c.number.ensures c.bytes.ensures)
