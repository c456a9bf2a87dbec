use Rattle.std.proofs.Common.{refl}
use Rattle.model.specs.Put.{text}
use Rattle.model.specs.Delivery.{stamped}
use Rattle.model.proofs.Steps.{own_ready}
use Rattle.logs.proofs.Changes.{fitted, seen_valid}
use Rattle.delivery.proofs.Takes.{stamped_sound, room_of}
use Rattle.delivery.proofs.make_put.Goals as goal

pub returns-clause-does : goal.returns-clause-does
returns-clause-does c =
    λ l r v h et bs g m.
    let d = r.delivery in
    let b = text c.args.key v in
    let n = room_of l r b m in
    let w = seen_valid l r c.args.replica.now c.view-view.result c.view-view.ensures h in
    let e = c.stamp-p.ensures l r v (fitted l r _ w.holds) w.laid.me et in
    (e, c.take_own.ensures.does l r (stamped b d) h (stamped_sound l r b h.holds.valid.fits bs g n.1) (own_ready b d) refl n.0 e)
