use Rattle.std.proofs.Common.{◌∷◌, ◌++◌, rules, refl, arith}
use Rattle.wire.specs.Bytes.{write_number}
use Rattle.wire_out.proofs.Overs.{adds_as, then_adds}
use Rattle.replies.proofs.put_refusal.Goals as goal

pub returns : goal.returns
returns c =
    let all = adds_as (then_adds c.byte.ensures (then_adds c.number-2.ensures c.number-3.ensures)) (λ i. c.number.ensures i ∷ (write_number c.args.refusal.number ++ write_number c.args.refusal.place)) in
    record { bytes = _; wrote = record { end = all.wrote.end; bytes = (let same = all.same in let wrote = all.wrote.bytes in search rules) }; most = omega (arith, all.wrote.end); are = refl }
