use Rattle.std.proofs.Common.{◌≡◌, ◌+◌, ◌-◌, ◌++◌, length, take, drop, refl, ap, ◌∙◌, arith}
use Rattle.std.proofs.lemmas.List.{drop-drop}
use Rattle.wire_out.specs.Written.{over}
use Rattle.wire_out.proofs.Overs.{adds}
use Rattle.wire_out.proofs.writer.Writer.bytes.Goals as goal

pub returns : goal.returns
unfolding over
returns c =
    let p = c.args.self.now in
    let s = p.out.now in
    let w = c.args.part.now in
    let k : p.at + length w - p.at ≡ length w = omega arith in
    let end = ap (λ n. drop n (drop p.at s)) k ∙ drop-drop (length w) p.at s in
    adds _ _ _ refl refl (omega arith) (λ i. take p.at s ++ (c.copy_from_slice.ensures.after i ++ end i))
