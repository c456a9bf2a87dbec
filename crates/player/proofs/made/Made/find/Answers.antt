use Rattle.std.proofs.Common.{length, get_or, vec_items, ap, ◌∙◌, arith}
use Rattle.player.proofs.Remembers.{found}
use Rattle.player.proofs.made.Made.find.Goals as goal

pub returns : goal.returns
returns c =
    let vs = vec_items c.args.self.now.puts in
    let maker = c.in_ok-get.ensures.lookup in
    let put = c.in_ok-bytes.ensures.lookup in
    let place = c.in_ok-place.ensures in
    let v = c.in_ok-get.field-0.now in
    let xs = c.deref-2.result.now in
    let b = c.in_ok-bytes.bytes.now in
    found vs c.args.maker c.args.number v v xs b c.as_slice.result.now (omega (arith, maker.3.0, ap length c.deref.ensures.value)) (maker.1 ∙ ap (λ l. get_or l c.args.maker v) c.deref.ensures.value) c.deref-2.ensures.value
    place.0 (omega (arith, put.3.0, place.1)) (put.1 ∙ ap (λ i. get_or xs i b) place.1) c.as_slice.ensures.value
