use Rattle.std.proofs.Common.{◌≡◌, rules, arith}
use Rattle.model.specs.Delivery.{reply}
use Rattle.puts.specs.Words.{code_slot}
use Rattle.logs.specs.State.{nth_of}
use Rattle.replica.proofs.Replies.{each_call, eight}
use Rattle.replica.proofs.reply.Goals as goal

pub returns : goal.returns
returns c = λ l r k h long e. eight l r k c.from_fn.result h.holds.valid c.from_fn.ensures.items.long
    (λ i b. each_call _ _ (λ j y. y ≡ code_slot (nth_of (reply k r.delivery) j)) (λ j y q w. search rules) c.from_fn.result 0 8 c.from_fn.ensures.items.each i _ (omega arith) (omega arith))
