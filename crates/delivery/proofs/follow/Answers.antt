use Rattle.std.proofs.Common.{ℕ, set, subst, arith}
use Rattle.memory.specs.State.{with_known}
use Rattle.logs.specs.State.{Fitted}
use Rattle.logs.proofs.Changes.{fitted, holds, shaped_known, shaped_pruned, laid_still}
use Rattle.delivery.proofs.follow.Goals as goal

pub returns-clause-does : goal.returns-clause-does
returns-clause-does c =
    λ l r h.
    let d = r.delivery in
    let f = fitted l r _ h.holds in
    let v = f.fits.delivery in
    let me = h.laid.me in
    let ks = set d.known d.me d.clock in
    let r₁ = with_known ks r in
    let P : ℕ → Type 0 = λ i. Fitted l (with_known (set d.known i d.clock) r) c.know.new.self.mem.now in
    let f₁ = subst P me (c.know.ensures.does l r d.clock f (omega (arith, v.me, me)) v.clock v.small (c.clock_of-clock.ensures l r f)) in
    let s₁ = shaped_known l r ks h.holds.valid.shaped in
    let s₂ = c.prune.ensures.does l r₁ (record { fitted = f₁; laid = laid_still l _ _ _ c.know.ensures.same h.laid }) s₁ in
    record { holds = holds l r _ _ _ h.holds (shaped_pruned l r₁ s₁) s₂.fitted; laid = s₂.laid }
