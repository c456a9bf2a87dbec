use Rattle.std.proofs.Common.{ℕ, ◌+◌, ◌<◌, sym, subst, arith}
use Rattle.model.specs.Limits.{count_bound}
use Rattle.model.specs.Clock.{at, tick}
use Rattle.model.specs.Store.{stored}
use Rattle.model.specs.Replica.{Replica}
use Rattle.memory.specs.State.{with_clock, with_store}
use Rattle.logs.specs.State.{Fitted, Held}
use Rattle.logs.proofs.Changes.{fitted, holds, laid_still}
use Rattle.delivery.proofs.Takes.{from_code, next_small, shaped_other, took_other}
use Rattle.delivery.proofs.take_other.Goals as goal

pub returns-clause-does : goal.returns-clause-does
returns-clause-does c =
    λ l r q h s n ne e.
    let d = r.delivery in
    let from = from_code _ q e in
    let S : ℕ → Type 0 = λ i. at d.clock i + 1 < count_bound in
    let P : ℕ → Type 0 = λ i. Fitted l (with_clock (tick d.clock i) r) c.count_put.new.self.mem.now in
    let R : Replica → Type 0 = λ x. Held l x c.follow.new.replica in
    let r₁ = with_clock (tick d.clock q.from) r in
    let r₂ = with_store (stored q r.store) r₁ in
    let f₁ = subst P from (c.count_put.ensures.does l r (fitted l r _ h.holds) (omega (arith, s.from)) (subst S (sym from) (next_small l d q s n))) in
    let f₂ = c.stand.ensures.does l r₁ q f₁ s e in
    let w₂ = laid_still l _ _ _ c.stand.ensures.same (laid_still l _ _ _ c.count_put.ensures.same h.laid) in
    subst R (took_other r q ne) (c.follow.ensures.does l r₂ (record { holds = holds l r r₂ _ _ h.holds (shaped_other l r q.from h.holds.valid.shaped ne) f₂; laid = w₂ }))
