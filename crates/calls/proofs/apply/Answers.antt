use Rattle.std.proofs.Common.{sym, ◌∙◌}
use Rattle.calls.proofs.apply.Goals as goal

pub returns-in-Ok : goal.returns-in-Ok
returns-in-Ok c = record {
  same = c.apply_accepted.ensures.same;
  does = λ l r e h k a. c.apply_accepted.ensures.does l r e h k (sym c.in-Ok.is ∙ a);
}
