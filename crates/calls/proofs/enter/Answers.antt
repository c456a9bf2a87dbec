use Rattle.std.proofs.Common.{sym, ap, ◌∙◌, subst, arith}
use Rattle.std.proofs.lemmas.Result.{err_from_is_err_and}
use Rattle.memory.specs.Layout.{Room, code_limits}
use Rattle.memory.specs.declared.Limits.{Limits}
use Rattle.logs.specs.State.{Laid}
use Rattle.wire.specs.Reading.{read}
use Rattle.model.specs.Replica.{in_range, legible, place}
use Rattle.model.specs.Program.{readable}
use Rattle.ranges.specs.Checked.{code_event}
use Rattle.calls.proofs.Enters.{found, no_event, not_handed, out_of_range, read_legible, was_handed, words_are}
use Rattle.calls.proofs.enter.Goals as goal

pub returns-in_err-event-clause-image : goal.returns-in_err-event-clause-image
returns-in_err-event-clause-image c = let p = err_from_is_err_and c.from_residual-in_err-event.result c.from_residual-in_err-event.ensures.1 in rw (p.1, p.2) (λ l r rest all v e. no_event l r (read c.args.bytes.now) _ c.in_err-event.ensures.is)

pub returns-in-None-clause-image : goal.returns-in-None-clause-image
returns-in-None-clause-image c = λ l r rest all v e.
    let is = c.in_ok-event.ensures.is in
    let same = found c.in_ok-limits.limits (code_limits l) c.in_ok-limits.me r.delivery.me (c.in_ok-limits.ensures.image l r rest v e) in
    let bad = not_handed _ c.in_range.result c.in-None.is (c.in_range.ensures l same.0 c.in_ok-limits.ensures.any.1.limits) in
    out_of_range l r (read c.args.bytes.now) all (ap legible (sym is) ∙ (read_legible c.in_ok-event.event).0) (ap place (sym is) ∙ (read_legible c.in_ok-event.event).1) (ap (in_range l) (sym is) ∙ bad)

pub returns-in-Some-clause-image : goal.returns-in-Some-clause-image
returns-in-Some-clause-image c = λ l r rest all v e.
    let is = c.in_ok-event.ensures.is in
    let same = found c.in_ok-limits.limits (code_limits l) c.in_ok-limits.me r.delivery.me (c.in_ok-limits.ensures.image l r rest v e) in
    let good = was_handed _ c.in_range.result c.in-Some.event c.in-Some.is (c.in_range.ensures l same.0 c.in_ok-limits.ensures.any.1.limits) in
    record {
      laid = subst (λ k. Laid l k c.new.result) same.1 (c.new.ensures.laid l (sym same.0));
      comes = record {
        legible = ap legible (sym is) ∙ (read_legible c.in_ok-event.event).0;
        carried = ap readable (sym is) ∙ c.in_ok-event.ensures.right.carried;
        in_range = ap (in_range l) (sym is) ∙ good.0;
        event = good.1 ∙ ap code_event is;
      };
    }

pub returns-in-Some-clause-room : goal.returns-in-Some-clause-room
returns-in-Some-clause-room c = (
  omega (arith, words_are c.in_ok-limits.limits c.in_ok-limits.me c.new.result c.new.ensures.laid, c.in_ok-limits.ensures.any.1.words),
  subst (λ (x : Limits × _). Room x.0 x.1 c.args.mem.now) c.in_ok-limits.ensures.any.0 c.in_ok-limits.ensures.any.1,
)
