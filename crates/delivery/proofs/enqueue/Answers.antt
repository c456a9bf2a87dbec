use Rattle.std.proofs.Common.{◌+◌, ap, ◌∙◌, arith}
use Rattle.puts.specs.Words.{put_words, slot_words}
use Rattle.logs.proofs.Changes.{stands_in}
use Rattle.delivery.proofs.Takes.{enqueued_holds}
use Rattle.delivery.proofs.enqueue.Goals as goal

pub returns-clause-does : goal.returns-clause-does
unfolding slot_words
returns-clause-does c =
    λ l r q h s ne lt e.
    let n = c.waiting-n.ensures.count l r (stands_in l r _ _ h) in
    let k = c.waiting_slot.ensures ∙ (λ i. h.laid.waiting.0 i + n i) in
    record { holds = enqueued_holds l r _ _ _ _ q _ _ h.holds s ne lt k (ap put_words e) (omega arith) c.write_slot.ensures c.write_word.ensures; laid = h.laid }
