-- A call over bytes and memory, before the event happens.
use Rattle.std.proofs.Common.{◌≡◌, ℕ, true, false, ◌&&◌, Bool, Some, None, Option, Ok, Err, Result, sym, refl, ap, ◌∙◌, subst, arith}
use Rattle.model.specs.Limits.{Limits}
use Rattle.model.specs.Replica.{Replica, Event, garbled, legible, in_range, event_number, first_failing, place}
use Rattle.memory.specs.Layout.{code_limits, model_limits, total}
use Rattle.memory.specs.declared.Limits.{Limits as CodeLimits}
use Rattle.logs.specs.State.{Laid, words_at}
use Rattle.logs.specs.declared.place.Place.{Place}
use Rattle.puts.specs.declared.event.Event.TheVariants.{Put, Get, Came, Has, Tell}
use Rattle.wire.specs.Said.{Event as CodeEvent, event}
use Rattle.calls.specs.Answered.{AllSupported, code_answer}
use Rattle.ranges.specs.Checked.{Handed}
use Rattle.calls.specs.declared.Reason.TheVariants.{NoEvent, OutOfRange}
use Rattle.calls.proofs.Acts.{code_refused, out_of_range_is_2}

-- no event
pub no_event : (l : Limits) (r : Replica) (e : Event) (k : ℕ) → garbled k ≡ e → Err (NoEvent k) ≡ code_answer l r e
unfolding first_failing legible place
no_event l r e k f = sym (code_refused l r (garbled k) 0 refl) ∙ ap (code_answer l r) f

-- out of range
pub out_of_range : (l : Limits) (r : Replica) (e : Event) → AllSupported l → legible e ≡ true → place e ≡ 0 → in_range l e ≡ false → Err OutOfRange ≡ code_answer l r e
out_of_range l r e all g p f =
    sym (code_refused l r e 1 (out_of_range_is_2 l r e g (ap (λ b. b && in_range l e) (all (event_number e)) ∙ f)))

-- an event that was read is one, whole
pub read_legible : (x : CodeEvent) → (legible (event x) ≡ true) × (place (event x) ≡ 0)
unfolding legible place
read_legible (Put k v) = (refl, refl)
read_legible (Get k) = (refl, refl)
read_legible (Came p) = (refl, refl)
read_legible (Has j c) = (refl, refl)
read_legible Tell = (refl, refl)

-- its words
pub words_are : (x : CodeLimits) (me : ℕ) (p : Place) → ((l : Limits) → x ≡ code_limits l → Laid l me p) → words_at p ≡ total x
words_are x me p f = let a = f (model_limits (λ k. true) x) refl in omega (arith, a.waiting.0, a.waiting.1)

-- the limits and the owner that were found are those of the image
pub found : {E : Type 0} (x y : CodeLimits) (i j : ℕ) → ◌≡◌ {A = Result (CodeLimits × ℕ) E} (Ok (x, i)) (Ok (y, j)) → (y ≡ x) × (i ≡ j)
found x y i j f = let same : ◌≡◌ {A = CodeLimits × ℕ} (x, i) (y, j) = cc in ((λ k. (sym same k).0), (λ k. (same k).1))

-- what the range check handed on, or not
pub not_handed : {A : Type 0} {b : Bool} (x : A) (o : Option A) → o ≡ None → Handed b x o → b ≡ false
not_handed {b = b} x o e h = subst (Handed b x) e h

pub was_handed : {A : Type 0} {b : Bool} (x : A) (o : Option A) (y : A) → o ≡ Some y → Handed b x o → (b ≡ true) × (y ≡ x)
was_handed {b = b} x o y e h = subst (Handed b x) e h

-- the error of a result
pub same_error : {A E : Type 0} {w v : E} → ◌≡◌ {A = Result A E} (Err w) (Err v) → w ≡ v
same_error e = cc
