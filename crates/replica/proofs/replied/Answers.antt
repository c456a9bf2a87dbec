use Rattle.std.proofs.Common.{Ok, sym, ap, ◌∙◌}
use Rattle.model.specs.Replica.{puts}
use Rattle.calls.specs.Answered.{says_in}
use Rattle.calls.proofs.Said.{answer_said, replied_to}
use Rattle.replica.proofs.replied.Goals as goal

pub returns-in-Made : goal.returns-in-Made
returns-in-Made c = λ l r e h rd g a. ap (says_in l.replicas r.delivery) (ap Ok (sym c.in-Made.is) ∙ a) ∙ answer_said l r e h.holds.valid rd g

pub returns-in-Came : goal.returns-in-Came
returns-in-Came c = λ l r e h rd g a. ap (says_in l.replicas r.delivery) (ap Ok (sym c.in-Came.is) ∙ a) ∙ answer_said l r e h.holds.valid rd g

pub returns-in-Reply : goal.returns-in-Reply
returns-in-Reply c = λ l r e h rd g a.
    let to = replied_to l r e c.in-Reply.to (ap Ok (sym c.in-Reply.is) ∙ a) g in
    ap puts (c.reply.ensures l r to.0 h to.1 to.2) ∙ to.3

pub returns-in-Value : goal.returns-in-Value
returns-in-Value c = λ l r e h rd g a. ap (says_in l.replicas r.delivery) (ap Ok (sym c.in-Value.is) ∙ a) ∙ answer_said l r e h.holds.valid rd g

pub returns-in-Clock : goal.returns-in-Clock
returns-in-Clock c = λ l r e h rd g a. ap (says_in l.replicas r.delivery) (ap Ok (sym c.in-Clock.is) ∙ a) ∙ answer_said l r e h.holds.valid rd g
