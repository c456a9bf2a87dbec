use Rattle.std.proofs.Common.{refl}
use Rattle.logs.proofs.Changes.{fitted}
use Rattle.calls.proofs.Events.{possible_had, possible_no, possible_other}
use Rattle.calls.proofs.possible_put.Goals.{else-p-view-via-then-p-view+else-not-had, else-p-view-via-else-p-view}
use Rattle.calls.proofs.possible_put.Goals as goal

pub returns-then-not-had : goal.returns-then-not-had
returns-then-not-had c = λ l r q k s e.
    let h = k.holds in
    let x = k.laid in
    (possible_no l r q c.args.p.now h.valid s e c.args.view.now.at.me c.had.result x.me (c.had.ensures l r q (fitted l r c.args.view.now.mem.now h) s e) c.if-p-view.true c.if-not-had.true, refl)

pub returns : goal.returns
returns c = λ l r q k s e.
    let h = k.holds in
    let x = k.laid in
    elim c.else-p-view.branch [
      | else-p-view-via-then-p-view+else-not-had w ↦ possible_had l r q c.args.p.now h.valid s e c.args.view.now.at.me w.had.result x.me (w.had.ensures l r q (fitted l r c.args.view.now.mem.now h) s e) w.if-not-had.false
      | else-p-view-via-else-p-view w ↦ possible_other l r q c.args.p.now h.valid s e c.args.view.now.at.me _ x.me refl w.if-p-view.false
    ]
