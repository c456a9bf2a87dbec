use Rattle.std.proofs.Common.{◌<◌, length, sym, ap, ◌∙◌, arith}
use Rattle.puts.specs.Words.{code_slot}
use Rattle.memory.proofs.Sound.{no_put}
use Rattle.logs.proofs.Logs.{nth_some, nth_none}
use Rattle.delivery.proofs.Reading.{put_here}
use Rattle.delivery.proofs.waiting_at.Goals as goal

pub returns-then-i-waiting : goal.returns-then-i-waiting
unfolding code_slot
returns-then-i-waiting c = λ l r s. let n = c.waiting.ensures.count l r s in sym (ap code_slot (nth_none r.delivery.waiting c.args.i (omega arith)))

pub returns : goal.returns
unfolding code_slot
returns c =
    λ l r s.
    let n = c.waiting.ensures.count l r s in
    let h : c.args.i < length r.delivery.waiting = omega arith in
    put_here l r _ _ s c.args.i h no_put _ c.waiting_slot.ensures _ c.read_slot.ensures ∙ sym (ap code_slot (nth_some r.delivery.waiting c.args.i no_put h))
