use Rattle.std.proofs.Common.{vec_items}
use Rattle.player.proofs.Calls.{one_more_new}
use Rattle.player.proofs.replicas.all_opened.Goals as goal

pub loop-me-preserved : goal.loop-me-preserved
loop-me-preserved c =
    one_more_new c.args.limits c.loop-me.me (vec_items c.loop-me.memories) (vec_items c.push.new.self) c.in_ok-opened.field-0 c.in_ok-push.ensures.items c.loop-me.invariant c.in_ok-opened.ensures
