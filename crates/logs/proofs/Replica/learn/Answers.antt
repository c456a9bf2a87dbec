use Rattle.std.proofs.Common.{[], get_or, set, sym, ap, ◌∙◌, subst}
use Rattle.model.specs.Clock.{join}
use Rattle.model.specs.Delivery.{pruned}
use Rattle.model.specs.Replica.{Replica}
use Rattle.puts.specs.declared.Clock.{Clock}
use Rattle.puts.proofs.Padded.{join_length}
use Rattle.memory.specs.State.{with_known, with_log}
use Rattle.logs.specs.State.{Held}
use Rattle.logs.proofs.Changes.{fitted, holds, begun, joined_clock, join_small, shaped_known, shaped_pruned, laid_still}
use Rattle.logs.proofs.Replica.learn.Goals as goal

pub returns-clause-does : goal.returns-clause-does
returns-clause-does c =
    λ l r x h lt n s e.
    let ks = r.delivery.known in
    let i = c.args.i in
    let f = fitted l r _ h.holds in
    let v = f.fits.delivery in
    let a = get_or ks i [] in
    let r₁ = with_known (set ks i (join a x)) r in
    let row = c.known_of-row.ensures l r f lt in
    let j = joined_clock l _ _ a x v.replicas (v.each i lt) n (c.join.ensures ∙ ap (λ (y : Clock). join c.known_of-row.result.counts y.counts) e) row in
    let f₁ = c.know.ensures.does l r (join a x) f lt (join_length a x ∙ v.each i lt) (join_small a x (v.each_small i lt) s) j in
    let s₁ = shaped_known l r (set ks i (join a x)) h.holds.valid.shaped in
    let s₂ = c.prune.ensures.does l r₁ (record { fitted = f₁; laid = laid_still l _ _ _ c.know.ensures.same h.laid }) s₁ in
    let R : Replica → Type 0 = λ y. Held l y c.prune.new.self in
    subst R (sym (begun (with_log (pruned r₁.delivery.known r.delivery.log) r₁))) (record { holds = holds l r _ _ _ h.holds (shaped_pruned l r₁ s₁) s₂.fitted; laid = s₂.laid })
