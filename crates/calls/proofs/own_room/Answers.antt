use Rattle.std.proofs.Common.{refl}
use Rattle.memory.specs.State.{own_count}
use Rattle.logs.proofs.Changes.{stands_in}
use Rattle.calls.proofs.Events.{counts_end, has_room, log_full}
use Rattle.calls.proofs.own_room.Goals.{then-logged-view-via-then-logged-view, then-logged-view-via-else-logged-view+then-own_count}
use Rattle.calls.proofs.own_room.Goals as goal

pub returns-then-logged-view : goal.returns-then-logged-view
returns-then-logged-view c = λ l r b k.
    let h = k.holds in
    let x = k.laid in
    let held = c.logged.ensures.count l r (stands_in l r c.args.view.now.mem.now c.args.view.now.at k) h.valid.shaped.room in (
      elim c.then-logged-view.branch [
        | then-logged-view-via-then-logged-view w ↦ log_full l r b (own_count r) c.logged.result c.args.view.now.at.layout.log.count refl held x.log.1 w.if-logged-view.true
        | then-logged-view-via-else-logged-view+then-own_count w ↦
            counts_end l r b w.own_count.result c.logged.result c.args.view.now.at.layout.log.count (w.own_count.ensures l r (stands_in l r c.args.view.now.mem.now c.args.view.now.at k)) held x.log.1 w.if-own_count.true
      ],
      refl,
    )

pub returns : goal.returns
returns c = λ l r b k.
    let h = k.holds in
    let x = k.laid in
    let held = c.logged.ensures.count l r (stands_in l r c.args.view.now.mem.now c.args.view.now.at k) h.valid.shaped.room in
    has_room l r b c.own_count.result c.logged.result c.args.view.now.at.layout.log.count (c.own_count.ensures l r (stands_in l r c.args.view.now.mem.now c.args.view.now.at k)) held x.log.1 c.if-logged-view.false c.if-own_count.false
