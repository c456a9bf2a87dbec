use Rattle.std.proofs.Common.{rules, sym, subst}
use Rattle.std.proofs.lemmas.Result.{err_from_is_err_and}
use Rattle.logs.specs.State.{Holds}
use Rattle.calls.proofs.Said.{refused_said}
use Rattle.replica.proofs.act.Goals as goal

pub returns-in_err-answer : goal.returns-in_err-answer
returns-in_err-answer c =
    let p = err_from_is_err_and c.from_residual.result c.from_residual.ensures.1 in
    record {
      does = λ l r e h x all k. subst (λ s. Holds l s c.args.mem.now) (sym (refused_said l r e _ (c.in_err-answer.ensures l r e (record { holds = h; laid = x }) all k)).1) h;
      says = rw (p.1, p.2) (λ l r e h x all k. (refused_said l r e _ (c.in_err-answer.ensures l r e (record { holds = h; laid = x }) all k)).0);
    }

pub returns : goal.returns
returns c = record {
  does = λ l r e h x all k.
      let same = c.apply_accepted.ensures.same.mem in
      let done = (c.apply_accepted.ensures.does l r e (record { holds = h; laid = x }) k (c.in_ok-answer.ensures l r e (record { holds = h; laid = x }) all k)).holds in
      search rules;
  says = λ l r e h x all k. c.replied-said.ensures l r e (record { holds = h; laid = x }) k.carried k.in_range (c.in_ok-answer.ensures l r e (record { holds = h; laid = x }) all k);
}
