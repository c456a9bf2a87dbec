use Rattle.std.proofs.Common.{◌≤◌, [], ◌∷◌, ◌++◌, length, rules, sym, refl, ap, ◌∙◌, subst, arith, append-nil}
use Rattle.std.specs.List.{flat_map}
use Rattle.std.specs.Option.{option_copied}
use Rattle.wire.specs.Bytes.{write_item}
use Rattle.wire.specs.Kinds.{answer_number}
use Rattle.wire_out.specs.Written.{Adds}
use Rattle.wire_out.proofs.Overs.{adds_as, adds_nothing, then_adds}
use Rattle.wire_out.proofs.Sizes.{puts_parts}
use Rattle.calls.specs.Answered.{none_or_one}
use Rattle.replies.specs.Written.{item_most}
use Rattle.replies.proofs.put_few.Goals.{in-Some, in_default}
use Rattle.replies.proofs.put_few.Goals as goal

pub returns : goal.returns
returns c =
    let n = c.args.replicas in
    let few = none_or_one n (option_copied c.args.put) in
    let item : Adds c.byte.new.self c.match-put.to (flat_map write_item few) × (length (flat_map write_item few) ≤ item_most) =
    elim c.match-put.branch [
      | in-Some w ↦
          let same = ap write_item w.sent.ensures.is ∙ sym (append-nil _) ∙ ap (λ o. flat_map write_item (none_or_one n (option_copied o))) (sym w.in-Some.is) in
          (subst (λ t. Adds c.byte.new.self t (flat_map write_item few)) (sym w.to-is) (adds_as w.item.ensures same), subst (λ t. length t ≤ item_most) same w.sent.ensures.most)
      | in_default w ↦
          let same = ap (λ o. flat_map write_item (none_or_one n (option_copied o))) (sym w.in_default.is) in (
            subst (λ t. Adds c.byte.new.self t (flat_map write_item few)) (sym w.to-is) (adds_as (adds_nothing c.byte.new.self (omega (arith, c.byte.ensures.within, c.byte.ensures.long))) same),
            subst (λ t. length t ≤ item_most) same (omega arith),
          )
    ] in
    let all = adds_as (then_adds c.byte.ensures (then_adds item.0 c.end.ensures)) ((λ i. c.number.ensures i ∷ (flat_map write_item few ++ (0 ∷ []))) ∙ ap (λ t. answer_number c.args.kind ∷ t) (sym (puts_parts few))) in
    record {
      bytes = _;
      wrote = record { end = all.wrote.end; bytes = (let same = all.same in let wrote = all.wrote.bytes in search rules) };
      most = omega (arith, c.end.ensures.wrote.end, item.0.wrote.end, c.byte.ensures.wrote.end, item.1);
      are = refl;
    }
