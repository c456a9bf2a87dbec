use Rattle.std.proofs.Common.{◌≡◌, Ok, true, sym, ◌∙◌}
use Rattle.model.specs.Program.{readable}
use Rattle.model.specs.Put.{text}
use Rattle.model.specs.Replica.{in_range}
use Rattle.memory.proofs.Sound.{came_sound}
use Rattle.calls.specs.Answered.{code_answer}
use Rattle.calls.proofs.Cases.{came_bytes, came_case, get_case, get_good, put_case, put_good, tell_case}
use Rattle.calls.proofs.answer_to.Goals as goal

pub returns-in-Put : goal.returns-in-Put
returns-in-Put c = λ l r e h all k.
    put_case (λ y. in_range l y ≡ true → c.put_answer.result ≡ code_answer l r y) c.in-Put.key c.in-Put.value
    (λ v t inr'. c.put_answer.ensures l r v h all t (put_good l (text c.in-Put.key v) inr')) e (sym c.in-Put.is ∙ k.event) k.in_range

pub returns-in-Get : goal.returns-in-Get
returns-in-Get c = λ l r e h all k.
    get_case (λ y. in_range l y ≡ true → Ok c.get_answer.result ≡ code_answer l r y) c.in-Get.key (λ inr'. c.get_answer.ensures l r h all (get_good l c.in-Get.key inr')) e (sym c.in-Get.is ∙ k.event) k.in_range

pub returns-in-Came : goal.returns-in-Came
returns-in-Came c = λ l r e h all k.
    came_case (λ y. readable y ≡ true → in_range l y ≡ true → c.came_answer.result ≡ code_answer l r y) c.in-Came.put
    (λ q t rd' inr'. c.came_answer.ensures l r q h all (came_sound l q h.holds.valid.few.replicas.1 (came_bytes q rd') inr') inr' t) e (sym c.in-Came.is ∙ k.event) k.carried k.in_range

pub returns-in-Tell : goal.returns-in-Tell
returns-in-Tell c = λ l r e h all k. tell_case (λ y. Ok c.tell_answer.result ≡ code_answer l r y) (c.tell_answer.ensures l r h all) e k.legible (sym c.in-Tell.is ∙ k.event)
