use Rattle.std.proofs.Common.{◌≡◌, [], ◌∷◌, ◌++◌, rules, length, take, sym, refl, ap, ◌∙◌, arith}
use Rattle.std.specs.List.{flat_map}
use Rattle.model.specs.Clock.{Clock}
use Rattle.model.specs.Delivery.{reply}
use Rattle.model.specs.Limits.{Limits}
use Rattle.model.specs.Replica.{Replica}
use Rattle.puts.specs.Values.{code_clock}
use Rattle.logs.specs.State.{SeenValid}
use Rattle.wire.specs.Bytes.{write_item}
use Rattle.calls.specs.Answered.{one_put}
use Rattle.wire_out.proofs.Overs.{adds_nothing, then_adds}
use Rattle.wire_out.proofs.Sizes.{puts_parts}
use Rattle.replies.proofs.Replies.{next_item, no_next, reply_sound, reply_whole}
use Rattle.replies.proofs.put_reply.Goals.{else-loop-i-test, then-loop-i-test+in_default}
use Rattle.replies.proofs.put_reply.Goals as goal

pub loop-i-init : goal.loop-i-init
loop-i-init c = (omega (arith, c.byte.ensures.wrote.end), ([], adds_nothing c.byte.new.self (omega (arith, c.byte.ensures.within, c.byte.ensures.long)), λ m r k h n e. refl))

pub loop-i-preserved : goal.loop-i-preserved
loop-i-preserved c =
    let before = c.loop-i.invariant.1 in (
      omega (arith, c.item.ensures.wrote.end, c.sent.ensures.most, c.loop-i.invariant.0),
      (
        _,
        then_adds before.1 c.item.ensures,
        λ m r k h n e.
            let same = c.sent.ensures.is ∙ ap (λ j. one_put j c.in-Some.put) h.laid.replicas in
            (λ i. before.2 m r k h n e i ++ write_item (same i))
            ∙ sym (next_item m (reply k r.delivery) c.loop-i.i c.in-Some.put (reply_sound m r k h.holds.valid) (c.in-Some.ensures m r k h n e)),
      ),
    )

pub returns : goal.returns
returns c =
    let before = c.loop-i.invariant.1 in
    let whole : (m : Limits) (r : Replica) (k : Clock) → SeenValid m r c.args.view.now → length k ≡ m.replicas → c.args.clock.now ≡ code_clock k → take c.loop-i.i (reply k r.delivery) ≡ reply k r.delivery =
    λ m r k h n e.
    elim c.loop-i-test.branch [
      | else-loop-i-test w ↦ reply_whole k r.delivery c.loop-i.i (omega (arith, w.loop-i-test.false))
      | then-loop-i-test+in_default w ↦ no_next (reply k r.delivery) c.loop-i.i (w.in_default.ensures m r k h n e)
    ] in
    let all = then_adds c.byte.ensures (then_adds before.1 c.end.ensures) in
    record {
      bytes = _;
      wrote = record { end = all.wrote.end; bytes = (let same = all.same in let wrote = all.wrote.bytes in search rules) };
      most = omega (arith, c.end.ensures.wrote.end, c.loop-i.invariant.0);
      are = λ m r k h n e.
          (λ i. c.number.ensures i ∷ (before.2 m r k h n e i ++ (0 ∷ []))) ∙ ap (λ t. 1 ∷ (flat_map write_item t ++ (0 ∷ []))) (whole m r k h n e) ∙ ap (λ t. 1 ∷ t) (sym (puts_parts (reply k r.delivery)));
    }
