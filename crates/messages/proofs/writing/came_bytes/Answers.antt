use Rattle.std.proofs.Common.{◌≡◌, vec_items, arith}
use Rattle.std.proofs.lemmas.List.{with_items_is}
use Rattle.model.specs.Put.{text}
use Rattle.model.specs.Replica.{came}
use Rattle.wire.specs.Bytes.{write_event}
use Rattle.messages.proofs.Ends.{cut_off, said_of}
use Rattle.messages.proofs.writing.came_bytes.Goals as goal

pub returns : goal.returns
returns c =
    let put = c.args.put.now in
    let write = c.write_came-end in
    let v : c.as_slice-value.result.now ≡ vec_items put.value = c.as_slice-value.ensures.value in
    let s : c.as_slice-seen.result.now ≡ vec_items put.seen = c.as_slice-seen.ensures.value in
    let all = with_items_is c.in_ok-bytes.bytes write.new.out (omega (arith, write.auto.out, c.as_mut_slice.ensures.len)) in
    said_of _ _ c.written.result (λ j. write_event (came (record { from = put.from; seen = s j; body = text put.key (v j) }))) (cut_off _ _ _ _ _ _ write.ensures all c.written.ensures)
