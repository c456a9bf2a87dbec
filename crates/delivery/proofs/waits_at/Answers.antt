use Rattle.std.proofs.Common.{rules, ◌≡◌, ◌&&◌, eqb, get_or, ◌∙◌}
use Rattle.std.proofs.lemmas.Option.{MatchOption-at_some}
use Rattle.model.specs.Put.{number}
use Rattle.delivery.proofs.Reading.{head_here}
use Rattle.delivery.proofs.waits_at.Goals as goal

pub returns : goal.returns
returns c =
    λ l r q d s h ef en.
    let p = get_or r.delivery.waiting c.args.i d in
    let m = MatchOption-at_some _ _ _ (head_here l r _ _ s c.args.i h d _ c.waiting_slot-slot.ensures _ c.read_head.ensures) c.is_some_and.ensures in
    let b : c.is_some_and.result ≡ (eqb c.args.from p.from && eqb c.args.number (number p)) = search (rules, m) in
    b ∙ (λ i. eqb (ef i) p.from && eqb (en i) (number p))
