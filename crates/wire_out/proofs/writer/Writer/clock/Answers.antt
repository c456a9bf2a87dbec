use Rattle.std.proofs.Common.{[], arith}
use Rattle.wire.proofs.Views.{length_clock}
use Rattle.wire_out.proofs.Overs.{then_adds}
use Rattle.wire_out.proofs.writer.Writer.clock.Goals as goal

pub counts-requires : goal.counts-requires
counts-requires c = omega (arith, length_clock c.args.counts.now [])

pub returns : goal.returns
returns c = then_adds c.counts.ensures c.bytes.ensures
