use Rattle.std.proofs.Common.{[], ◌∷◌, length, vec_items, sym, ap, ◌∙◌, arith}
use Rattle.words.specs.Text.{Words, numbers_text}
use Rattle.words.proofs.Spaces.{numbers_same}
use Rattle.script.proofs.Parts.{none_read, one_read}
use Rattle.script.proofs.read_limits.Goals as goal

pub returns-in_default : goal.returns-in_default
returns-in_default c = λ x can e.
    none_read numbers_text Words c.args.text.now vec_items c.in_ok-all.field-0 c.in_default.is c.in_ok-all.ensures (x.replicas ∷ x.keys ∷ x.log ∷ x.waiting ∷ []) ((can.0, (can.1, (can.2, (can.3, tt)))), omega arith) e

pub returns-in_default-try_from : goal.returns-in_default-try_from
returns-in_default-try_from c = λ x can e.
    let ns = one_read numbers_text Words c.args.text.now vec_items c.in_ok-all.field-0 c.in-Some.all c.in-Some.is c.in_ok-all.ensures in
    let same = numbers_same (vec_items c.in-Some.all) (x.replicas ∷ x.keys ∷ x.log ∷ x.waiting ∷ []) ns.0 ((can.0, (can.1, (can.2, (can.3, tt)))), omega arith) (sym ns.1 ∙ e) in
    c.in_default-try_from.ensures.1 (ap length c.as_slice.ensures.value ∙ ap length same)
