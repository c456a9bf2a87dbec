use Rattle.std.proofs.Common.{length, ap, arith}
use Rattle.puts.proofs.Padded.{copied_pad}
use Rattle.puts.proofs.Text.from_bytes.Goals as goal

pub returns : goal.returns
returns c =
    record {
      value = (
        omega arith,
        ap (λ x. record { len = length c.args.bytes.now; bytes = x }) (copied_pad 64 c.args.bytes.now _ c.copy_from_slice.ensures.after (omega arith)),
      );
      bytes = λ i. omega (arith, c.type_inv.bytes i);
    }
