use Rattle.std.proofs.Common.{◌≡◌, false, sym, ◌∙◌, refl, inl, inr, arith}
use Rattle.logs.proofs.Changes.{fitted, stands_in}
use Rattle.calls.proofs.Events.{no_room, room_again, room_left, room_ready}
use Rattle.calls.proofs.queue_room.Goals as goal

pub returns-then-waiting-view : goal.returns-then-waiting-view
returns-then-waiting-view c = λ l r q k s e. room_left l r q c.waiting.result c.args.view.now.at.layout.waiting.count (c.waiting.ensures.count l r (stands_in l r c.args.view.now.mem.now c.args.view.now.at k)) k.laid.waiting.1 c.if-waiting-view.true

pub returns-then-again : goal.returns-then-again
returns-then-again c = λ l r q k s e.
    elim c.then-again.either [
      | inl t ↦ room_again l r q (sym (c.nothing_new-again.ensures l r q (stands_in l r c.args.view.now.mem.now c.args.view.now.at k) s e) ∙ t)
      | inr t ↦ room_ready l r q (sym (c.ready-next.ensures l r q (fitted l r c.args.view.now.mem.now k.holds) s e) ∙ t.1)
    ]

pub returns : goal.returns
returns c = λ l r q k s e.
    let y = stands_in l r c.args.view.now.mem.now c.args.view.now.at k in
    let not_again : c.nothing_new-again.result ≡ false = grind arith in
    let not_next : c.ready-next.result ≡ false = grind arith in (
      no_room l r q c.waiting.result c.args.view.now.at.layout.waiting.count (c.waiting.ensures.count l r y) k.laid.waiting.1 c.if-waiting-view.false
          (sym (c.nothing_new-again.ensures l r q y s e) ∙ not_again) (sym (c.ready-next.ensures l r q (fitted l r c.args.view.now.mem.now k.holds) s e) ∙ not_next),
      refl,
    )
