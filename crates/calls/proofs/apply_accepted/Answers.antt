use Rattle.std.proofs.Common.{◌≡◌, true, Ok, sym, refl, ◌∙◌}
use Rattle.model.specs.Program.{readable}
use Rattle.model.specs.Put.{text}
use Rattle.model.specs.Store.{stored_all}
use Rattle.model.specs.Replica.{after, get, has, in_range, moves, tell}
use Rattle.memory.proofs.Sound.{came_sound}
use Rattle.logs.specs.State.{Held}
use Rattle.calls.specs.Answered.{code_answer}
use Rattle.calls.proofs.Acts.{was_accepted}
use Rattle.calls.proofs.Cases.{came_bytes, came_case, get_case, has_case, put_bytes, put_case, put_good, tell_case}
use Rattle.calls.proofs.Events.{done_as, reads_only}
use Rattle.calls.proofs.Told.{told_long}
use Rattle.calls.proofs.apply_accepted.Goals as goal

pub returns-in-Put : goal.returns-in-Put
returns-in-Put c = record {
  same = c.apply_put.ensures.same;
  does = λ l r e h k a.
      put_case (λ y. readable y ≡ true → in_range l y ≡ true → Ok c.args.answer.now ≡ code_answer l r y → Held l (after l r y) c.apply_put.new.replica) c.in-Put.key c.in-Put.value
      (λ v t rd' inr' a'. let b = text c.in-Put.key v in c.apply_put.ensures.does l r b h (put_bytes c.in-Put.key v rd') (put_good l b inr') a') e (sym c.in-Put.is ∙ k.event) k.carried k.in_range a;
}

pub returns-in-Came : goal.returns-in-Came
returns-in-Came c = record {
  same = c.apply_came.ensures.same;
  does = λ l r e h k a.
      came_case (λ y. readable y ≡ true → in_range l y ≡ true → Ok c.args.answer.now ≡ code_answer l r y → Held l (after l r y) c.apply_came.new.replica) c.in-Came.put
      (λ q t rd' inr' a'. c.apply_came.ensures.does l r q h (came_sound l q h.holds.valid.few.replicas.1 (came_bytes q rd') inr') t a') e (sym c.in-Came.is ∙ k.event) k.carried k.in_range a;
}

pub returns-in-Has : goal.returns-in-Has
unfolding moves
returns-in-Has c = record {
  same = c.learn.ensures.same;
  does = λ l r e h k a.
      has_case (λ y. in_range l y ≡ true → Ok c.args.answer.now ≡ code_answer l r y → Held l (after l r y) c.learn.new.self) c.in-Has.from c.in-Has.clock
      (λ k' t inr' a'.
      let y = (was_accepted l r (has c.in-Has.from k') c.args.answer.now a').0 in
      let long = told_long l c.in-Has.from k' inr' in
      done_as l r (has c.in-Has.from k') c.learn.new.self y (c.learn.ensures.does l r k' h long.0 long.1 long.2 t)) e (sym c.in-Has.is ∙ k.event) k.in_range a;
}

pub returns-in-Get : goal.returns-in-Get
unfolding moves stored_all
returns-in-Get c = record {
  same = record { mem = refl; at = refl };
  does = λ l r e h k a.
      get_case (λ y. Held l (after l r y) c.args.replica.now) c.in-Get.key (reads_only l r (get c.in-Get.key) c.args.replica.now refl h) e (sym c.in-Get.is ∙ k.event);
}

pub returns-in-Tell : goal.returns-in-Tell
unfolding moves stored_all
returns-in-Tell c = record {
  same = record { mem = refl; at = refl };
  does = λ l r e h k a. tell_case (λ y. Held l (after l r y) c.args.replica.now) (reads_only l r tell c.args.replica.now refl h) e k.legible (sym c.in-Tell.is ∙ k.event);
}
