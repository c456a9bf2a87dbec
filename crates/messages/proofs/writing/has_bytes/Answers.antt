use Rattle.std.proofs.Common.{arith}
use Rattle.std.proofs.lemmas.List.{with_items_is}
use Rattle.messages.proofs.Ends.{cut_off}
use Rattle.messages.proofs.writing.has_bytes.Goals as goal

pub returns : goal.returns
returns c =
    let write = c.write_has-end in
    let all = with_items_is c.in_ok-bytes.bytes write.new.out (omega (arith, write.auto.out, c.as_mut_slice.ensures.len)) in
    cut_off _ _ _ _ _ _ write.ensures all c.written.ensures
