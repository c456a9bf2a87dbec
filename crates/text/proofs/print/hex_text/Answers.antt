use Rattle.std.proofs.Common.{◌≡◌, ◌*◌, length, take, sym, ap, ◌∙◌, arith}
use Rattle.std.proofs.lemmas.List.{take_all}
use Rattle.words.specs.Text.{hex}
use Rattle.text.proofs.Digits.{hex_utf8}
use Rattle.text.proofs.print.hex_text.Goals as goal

pub unreachable-requires : goal.unreachable-requires
unreachable-requires c =
    let bs = c.args.bytes.now in
    let all : c.loop-i.i ≡ length bs = omega arith in
    let text : take (2 * length bs) c.loop-i.digits ≡ hex bs = ap (λ n. take (2 * n) c.loop-i.digits) (sym all) ∙ c.loop-i.invariant.done ∙ ap hex (take_all c.loop-i.i bs (omega arith)) in
    c.in_default.ensures.cases.0 (rw text (hex_utf8 bs (λ i. omega (arith, c.type_inv.bytes i))))
