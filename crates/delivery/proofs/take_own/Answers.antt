use Rattle.std.proofs.Common.{ℕ, ◌+◌, ◌<◌, ◌∷◌, sym, ◌∙◌, subst, arith}
use Rattle.model.specs.Limits.{count_bound}
use Rattle.model.specs.Clock.{at, tick}
use Rattle.model.specs.Store.{stored}
use Rattle.model.specs.Replica.{Replica}
use Rattle.memory.specs.Valid.{Shaped}
use Rattle.memory.specs.State.{with_clock, with_log, with_waiting, with_store}
use Rattle.logs.specs.State.{Fitted, Held}
use Rattle.logs.proofs.Changes.{fitted, holds, stands_in, laid_still}
use Rattle.delivery.specs.Steps.{took}
use Rattle.delivery.proofs.Takes.{next_small, shaped_own, took_own, took_moves, shaped_cleaned}
use Rattle.delivery.proofs.take_own.Goals as goal

pub returns-clause-does : goal.returns-clause-does
returns-clause-does c =
    λ l r q h s n own lt e.
    let d = r.delivery in
    let from = h.laid.me ∙ sym own in
    let S : ℕ → Type 0 = λ i. at d.clock i + 1 < count_bound in
    let P : ℕ → Type 0 = λ i. Fitted l (with_clock (tick d.clock i) r) c.count_put.new.self.mem.now in
    let Q : ℕ → Type 0 = λ i. Shaped l (with_log (q ∷ d.log) (with_clock (tick d.clock i) r)).delivery in
    let R : Replica → Type 0 = λ x. Held l x c.follow.new.replica in
    let r₁ = with_clock (tick d.clock q.from) r in
    let r₂ = with_store (stored q r.store) r₁ in
    let r₃ = with_log (q ∷ d.log) r₂ in
    let f₁ = subst P from (c.count_put.ensures.does l r (fitted l r _ h.holds) (omega (arith, s.from)) (subst S (sym from) (next_small l d q s n))) in
    let f₂ = c.stand.ensures.does l r₁ q f₁ s e in
    let w₂ = laid_still l _ _ _ c.stand.ensures.same (laid_still l _ _ _ c.count_put.ensures.same h.laid) in
    let s₃ = c.push.ensures.does l r₂ q (record { fitted = f₂; laid = w₂ }) s lt e in
    let v₃ = subst Q (sym own) (shaped_own l r q h.holds.valid.fits h.holds.valid.shaped own n lt) in
    let h₄ = subst R (took_own r q own) (c.follow.ensures.does l r₃ (record { holds = holds l r r₃ _ _ h.holds v₃ s₃.fitted; laid = s₃.laid })) in
    let r₄ = with_waiting d.waiting (took q r) in
    let s₅ = c.clean.ensures.does l r₄ (stands_in l r₄ _ _ h₄) in
    let Z : Replica → Type 0 = λ x. Held l x c.clean.new.replica in
    subst Z (took_moves r q) (record { holds = holds l r _ _ _ h.holds (shaped_cleaned l r₄ h₄.holds.valid.shaped) s₅.fitted; laid = s₅.laid })
