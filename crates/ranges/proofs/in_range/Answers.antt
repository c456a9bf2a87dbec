use Rattle.std.proofs.Common.{ltb, sym, ap, ◌∙◌}
use Rattle.model.specs.Replica.{in_range}
use Rattle.wire.specs.Said.{event}
use Rattle.ranges.specs.Checked.{code_event}
use Rattle.puts.specs.declared.event.Event.TheVariants.{Put, Get, Came, Has}
use Rattle.ranges.proofs.Tests.{both_hold, first_fails, rest_fails}
use Rattle.ranges.proofs.in_range.Goals as goal

pub returns-in_err-key-in-Put : goal.returns-in_err-key-in-Put
unfolding in_range
returns-in_err-key-in-Put c = rw c.from_residual.ensures (λ l e h. ap (λ x. in_range l (event x)) c.in-Put.is ∙ c.in_err-key-in-Put.ensures l e)

pub returns-in_err-below-in-Get : goal.returns-in_err-below-in-Get
unfolding in_range
returns-in_err-below-in-Get c = rw c.from_residual-in_err-below-in-Get.ensures (λ l e h. ap (λ x. in_range l (event x)) c.in-Get.is ∙ ap (λ x. ltb c.in-Get.key x.keys) e ∙ c.in_err-below-in-Get.ensures)

pub returns-in_err-put_in_range-in-Came : goal.returns-in_err-put_in_range-in-Came
unfolding in_range
returns-in_err-put_in_range-in-Came c = rw c.from_residual-in_err-put_in_range-in-Came.ensures (λ l e h. ap (λ x. in_range l (event x)) c.in-Came.is ∙ c.in_err-put_in_range-in-Came.ensures l e h)

pub returns-in_err-below-in-Has : goal.returns-in_err-below-in-Has
unfolding in_range
returns-in_err-below-in-Has c = rw c.from_residual-in_err-below-in-Has.ensures (λ l e h. ap (λ x. in_range l (event x)) c.in-Has.is ∙ first_fails _ _ (ap (λ x. ltb c.in-Has.replica x.replicas) e ∙ c.in_err-below-in-Has.ensures))

pub returns-in_err-clock_of-in-Has : goal.returns-in_err-clock_of-in-Has
unfolding in_range
returns-in_err-clock_of-in-Has c = rw c.from_residual-in_err-clock_of-in-Has.ensures (λ l e h. ap (λ x. in_range l (event x)) c.in-Has.is ∙ rest_fails _ _ (c.in_err-clock_of-in-Has.ensures l e h))

pub returns-in_ok-key-in-Put : goal.returns-in_ok-key-in-Put
unfolding in_range
returns-in_ok-key-in-Put c = λ l e h.
    let p = c.in_ok-key-in-Put.ensures l e in
    (ap (λ x. in_range l (event x)) c.in-Put.is ∙ p.0, (λ i. Put (p.1 i).0 (p.1 i).1) ∙ sym (ap (λ x. code_event (event x)) c.in-Put.is))

pub returns-in_ok-below-in-Get : goal.returns-in_ok-below-in-Get
unfolding in_range
returns-in_ok-below-in-Get c = λ l e h.
    let k = c.in_ok-below-in-Get.ensures in
    (ap (λ x. in_range l (event x)) c.in-Get.is ∙ ap (λ x. ltb c.in-Get.key x.keys) e ∙ k.0, ap Get k.1 ∙ sym (ap (λ x. code_event (event x)) c.in-Get.is))

pub returns-in_ok-put_in_range-in-Came : goal.returns-in_ok-put_in_range-in-Came
unfolding in_range
returns-in_ok-put_in_range-in-Came c = λ l e h.
    let p = c.in_ok-put_in_range-in-Came.ensures l e h in
    (ap (λ x. in_range l (event x)) c.in-Came.is ∙ p.0, ap Came p.1 ∙ sym (ap (λ x. code_event (event x)) c.in-Came.is))

pub returns-in_ok-clock_of-in-Has : goal.returns-in_ok-clock_of-in-Has
unfolding in_range
returns-in_ok-clock_of-in-Has c = λ l e h.
    let j = c.in_ok-below-in-Has.ensures in
    let k = c.in_ok-clock_of-in-Has.ensures l e h in
    (ap (λ x. in_range l (event x)) c.in-Has.is ∙ both_hold _ _ (ap (λ x. ltb c.in-Has.replica x.replicas) e ∙ j.0) k.0, (λ i. Has (j.1 i) (k.1 i)) ∙ sym (ap (λ x. code_event (event x)) c.in-Has.is))

pub returns-in-Tell : goal.returns-in-Tell
unfolding in_range
returns-in-Tell c = λ l e h. (ap (λ x. in_range l (event x)) c.in-Tell.is, sym (ap (λ x. code_event (event x)) c.in-Tell.is))
