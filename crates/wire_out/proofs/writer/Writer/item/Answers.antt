use Rattle.std.proofs.Common.{◌≡◌, length, ap, arith}
use Rattle.wire.specs.Bytes.{write_number, write_put}
use Rattle.wire_out.specs.Said.{put_of}
use Rattle.wire_out.proofs.Overs.{then_adds, adds_as}
use Rattle.wire_out.proofs.writer.Writer.item.Goals as goal

pub returns : goal.returns
returns c =
    let size : c.put_len.result ≡ length (write_put (put_of c.args.put)) = omega arith in
    then_adds c.bytes.ensures (then_adds (adds_as c.number.ensures (ap write_number size)) c.put.ensures)
