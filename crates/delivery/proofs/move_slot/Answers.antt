use Rattle.std.proofs.Common.{[], get_or, set, sym, ap, ◌∙◌}
use Rattle.std.proofs.lemmas.List.{set-get_or}
use Rattle.slots.specs.Image.{memory, with_copy}
use Rattle.slots.proofs.Slots.{slot_laws}
use Rattle.delivery.proofs.move_slot.Goals as goal

pub returns-then-k-to : goal.returns-then-k-to
returns-then-k-to c = λ rs ss n h t e. c.copy_slot.ensures ∙ ap (with_copy c.args.k c.args.to) e ∙ slot_laws.copies rs ss c.args.k c.args.to n h t

pub returns-else-k-to : goal.returns-else-k-to
returns-else-k-to c = λ rs ss n h t e. e ∙ ap (memory rs) (sym (ap (λ x. set ss x (get_or ss c.args.k [])) (sym c.if-k-to.false) ∙ set-get_or ss c.args.k []))
