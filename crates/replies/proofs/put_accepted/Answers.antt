use Rattle.std.proofs.Common.{Ok, ◌∷◌, sym, ap, ◌∙◌}
use Rattle.calls.specs.Answered.{none_or_one}
use Rattle.wire.specs.Bytes.{write_answer, write_puts}
use Rattle.calls.proofs.Said.{replied_to}
use Rattle.replies.proofs.Replies.{means}
use Rattle.replies.proofs.put_accepted.Goals as goal

pub returns-in-Made : goal.returns-in-Made
unfolding write_puts
returns-in-Made c = let w = c.put_few.ensures in record { bytes = w.bytes; wrote = w.wrote; most = w.most; are = λ l r e h rd g a. means l r e _ h.holds.valid h.laid.replicas rd g _ (ap Ok (sym c.in-Made.is) ∙ a) w.bytes w.are }

pub returns-in-Came : goal.returns-in-Came
unfolding write_puts
returns-in-Came c = let w = c.put_few-in-Came.ensures in record { bytes = w.bytes; wrote = w.wrote; most = w.most; are = λ l r e h rd g a. means l r e _ h.holds.valid h.laid.replicas rd g _ (ap Ok (sym c.in-Came.is) ∙ a) w.bytes w.are }

pub returns-in-Reply : goal.returns-in-Reply
returns-in-Reply c =
    let w = c.put_reply.ensures in
    record {
      bytes = w.bytes;
      wrote = w.wrote;
      most = w.most;
      are = λ l r e h rd g a. let to = replied_to l r e c.in-Reply.to (ap Ok (sym c.in-Reply.is) ∙ a) g in w.are l r to.0 h to.1 to.2 ∙ ap write_answer to.3;
    }

pub returns-in-Value : goal.returns-in-Value
unfolding write_puts
returns-in-Value c = let w = c.put_few-in-Value.ensures in record { bytes = w.bytes; wrote = w.wrote; most = w.most; are = λ l r e h rd g a. means l r e _ h.holds.valid h.laid.replicas rd g _ (ap Ok (sym c.in-Value.is) ∙ a) w.bytes (w.are ∙ ap (λ o. 2 ∷ write_puts (none_or_one c.args.view.now.at.replicas o)) c.as_ref.ensures.value) }

pub returns-in-Clock : goal.returns-in-Clock
returns-in-Clock c = let w = c.put_clock.ensures in record { bytes = w.bytes; wrote = w.wrote; most = w.most; are = λ l r e h rd g a. means l r e _ h.holds.valid h.laid.replicas rd g _ (ap Ok (sym c.in-Clock.is) ∙ a) w.bytes w.are }
