use Rattle.std.proofs.Common.{◌+◌, ◌≤◌, ◌∙◌, refl, arith}
use Rattle.wire.proofs.Entries.{filled_next}
use Rattle.wire.proofs.event.ClockBytes.counts.Goals as goal

pub loop-n-preserved : goal.loop-n-preserved
loop-n-preserved c =
    let few : c.loop-n.found + 1 ≤ c.args.many = omega arith in
    let more = filled_next _ _ _ _ _ _ _ (c.loop-n.invariant.left ∙ c.in-Some.ensures.steps) refl refl (omega arith) c.loop-n.invariant.counts in
    record { left = more.0; within = more.1; few = few; counts = more.2 }
