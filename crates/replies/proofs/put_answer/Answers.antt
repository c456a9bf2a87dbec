use Rattle.std.proofs.Common.{sym, ap, ◌∙◌}
use Rattle.model.specs.Replica.{refused}
use Rattle.wire.specs.Bytes.{write_answer}
use Rattle.calls.proofs.Said.{refused_said}
use Rattle.replies.proofs.put_answer.Goals as goal

pub returns-in-Ok : goal.returns-in-Ok
returns-in-Ok c =
    let w = c.put_accepted.ensures in
    record { bytes = w.bytes; wrote = w.wrote; most = w.most; are = λ l r e h rd g a. w.are l r e h rd g (sym c.in-Ok.is ∙ a) }

pub returns-in-Err : goal.returns-in-Err
returns-in-Err c =
    let w = c.put_refusal.ensures in
    let f = c.from.ensures in
    record {
      bytes = w.bytes;
      wrote = w.wrote;
      most = w.most;
      are = λ l r e h rd g a. w.are ∙ (λ i. write_answer (refused (f.0 i) (f.1 i))) ∙ ap write_answer (refused_said l r e c.in-Err.reason (sym c.in-Err.is ∙ a)).0;
    }
