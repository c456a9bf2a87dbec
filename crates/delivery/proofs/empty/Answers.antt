use Rattle.std.proofs.Common.{◌≡◌, ℕ, ◌+◌, refl, ap, subst, arith}
use Rattle.puts.specs.Words.{slot_words}
use Rattle.delivery.specs.Steps.{Emptied}
use Rattle.delivery.proofs.Queue.{emptied_none, emptied_more}
use Rattle.delivery.proofs.empty.Goals as goal

pub loop-j-init : goal.loop-j-init
loop-j-init c = λ l r f w n g. emptied_none l r f _ _ _ n g

pub loop-j-preserved : goal.loop-j-preserved
unfolding slot_words
loop-j-preserved c =
    λ l r f w n g₀.
    let g = c.loop-j.invariant l r f w n g₀ in
    emptied_more l r f _ _ _ _ c.loop-j.j _ (ap (λ x. x + c.loop-j.j) w) (omega arith) (omega arith) refl c.clear_slot.ensures g

pub returns : goal.returns
returns c =
    λ l r f w n b g.
    let n' = c.loop-j.auto.j-end b in
    let e : c.loop-j.j ≡ c.args.count = omega arith in
    let P : ℕ → Type 0 = λ j. Emptied l r c.loop-j.mem j c.args.stay in
    subst P e (c.loop-j.invariant l r f w n g)
