use Rattle.std.proofs.Common.{◌≡◌, ℕ, ◌+◌, ◌<◌, List, ◌++◌, length, set, sym, ap, ◌∙◌, subst, arith}
use Rattle.slots.specs.Image.{memory}
use Rattle.memory.specs.Image.{rows}
use Rattle.delivery.specs.Steps.{Moved, front}
use Rattle.delivery.proofs.Queue.{long, all_length, size, moved_none, moved_at, moved_goes, moved_stays, read_here}
use Rattle.delivery.proofs.keep.Goals as goal
use Rattle.delivery.proofs.keep.Goals.{then-not-had_at, else-not-had_at}

pub loop-i-init : goal.loop-i-init
loop-i-init c = (omega arith, λ l r f w n k. moved_none l r f.fits _ f.mem)

pub loop-i-preserved : goal.loop-i-preserved
loop-i-preserved c = elim c.if-not-had_at.branch [
  | then-not-had_at t ↦ (
    omega (arith, t.stay-is),
    λ l r f w n k.
        let v = f.fits in
        let i = c.loop-i.i in
        let g = c.loop-i.invariant.1 l r f w n k in
        let h : i < length r.delivery.waiting = omega arith in
        let base = w in
        let sl = all_length l r v g.slots (size l r v _ _ _ g) in
        let b = sym (read_here l r v _ _ _ i _ _ (ap (λ x. x + i) base) h g (λ rs ss q x. c.had_at.ensures rs ss q x) k) ∙ t.if-not-had_at.true in
        let m = t.mem-is ∙ t.move_slot.ensures _ _ (long l r v) (omega (arith, v.delivery.room)) (omega (arith, v.delivery.room)) g.mem
        ∙ ap (λ x. memory (rows l r.delivery) (set (front l r ++ g.slots) (c.args.base + c.loop-i.stay) x)) (moved_at l r v _ _ i _ (ap (λ x. x + i) base) h g) in
        let P : ℕ → Type 0 = λ x. Moved l r c.if-not-had_at.mem (i + 1) x in
        subst P (sym t.stay-is) (moved_stays l r v _ _ _ i c.loop-i.stay (ap (λ x. x + c.loop-i.stay) base) h b g m),
  )
  | else-not-had_at t ↦ (
    omega (arith, t.stay-is),
    λ l r f w n k.
        let v = f.fits in
        let i = c.loop-i.i in
        let g = c.loop-i.invariant.1 l r f w n k in
        let h : i < length r.delivery.waiting = omega arith in
        let b = sym (read_here l r v _ _ _ i _ _ (ap (λ x. x + i) w) h g (λ rs ss q x. c.had_at.ensures rs ss q x) k) ∙ t.if-not-had_at.false in
        let P : List ℕ → Type 0 = λ x. Moved l r x (i + 1) c.loop-i.stay in
        let Q : ℕ → Type 0 = λ x. Moved l r c.if-not-had_at.mem (i + 1) x in
        subst Q (sym t.stay-is) (subst P (sym t.mem-is) (moved_goes l r v _ i c.loop-i.stay h b g)),
  )
]

pub returns : goal.returns
returns c =
    record {
      bound = omega arith;
      moved = λ l r f w n k.
          let z : c.loop-i.i ≡ c.args.count = omega arith in
          let P : ℕ → Type 0 = λ x. Moved l r c.loop-i.mem x c.loop-i.stay in
          subst P z (c.loop-i.invariant.1 l r f w n k);
    }
