use Rattle.std.proofs.Common.{get_or, sym, ◌∙◌, subst, arith}
use Rattle.model.specs.Put.{Put, Body}
use Rattle.model.specs.Delivery.{Run, take_one}
use Rattle.model.specs.Replica.{moved}
use Rattle.memory.specs.State.{with_waiting}
use Rattle.memory.proofs.Sound.{no_put}
use Rattle.logs.proofs.Changes.{stands_in, still}
use Rattle.delivery.specs.Steps.{Unswept}
use Rattle.delivery.proofs.Settled.{no_first, a_first, first_of_all, taken_unswept, settle_on, settle_ends, settle_none}
use Rattle.delivery.proofs.take_waiting.Goals as goal

pub returns-in_default-clause-does : goal.returns-in_default-clause-does
returns-in_default-clause-does c =
    λ l m s u₀.
    let g = c.loop.invariant.1 l m s u₀ in
    let u = g.unswept in
    let r = with_waiting u.all (moved g.run s) in
    let R : Run Body → Type 0 = λ x. Unswept l x s c.loop.replica in
    let y = first_of_all l g.run s _ u ∙ no_first r.delivery u.all _ c.in_default.is (c.first_ready.ensures l r (stands_in l r _ _ u.held)) in
    subst R (sym (settle_ends _ g.run y) ∙ g.same) u

pub loop-preserved : goal.loop-preserved
loop-preserved c = (
  still _ _ _ c.loop.invariant.0 c.take_other.ensures.same,
  λ l m s u₀.
      let g = c.loop.invariant.1 l m s u₀ in
      let u = g.unswept in
      let r = with_waiting u.all (moved g.run s) in
      let v = u.held.holds.valid in
      let a = a_first r.delivery u.all no_put _ (sym c.in-Some.is ∙ c.first_ready.ensures l r (stands_in l r _ _ u.held)) in
      let q : Put Body = get_or u.all a.0 no_put in
      record {
        run = take_one q g.run;
        unswept = taken_unswept l g.run s _ _ q u (c.take_other.ensures.does l r q u.held (v.fits.delivery.waits a.0 no_put a.1) a.3 (v.shaped.others a.0 no_put a.1) a.2);
        same = settle_on _ _ g.run q (omega arith) (first_of_all l g.run s _ u ∙ a.4) ∙ g.same;
      },
)

pub returns-clause-does : goal.returns-clause-does
returns-clause-does c =
    λ l m s u₀.
    let g = c.loop.invariant.1 l m s u₀ in
    let R : Run Body → Type 0 = λ x. Unswept l x s c.loop.replica in
    subst R (sym (settle_none _ g.run (omega arith)) ∙ g.same) g.unswept
