-- One replica: checks, and what holds in any state.
use Rattle.std.proofs.Common.{◌≡◌, ℕ, ◌<◌, Bool, true, false, cond, ◌&&◌, List, [], ◌∷◌, sym, refl, ap, ◌∙◌, arith}
use Rattle.std.proofs.lemmas.Bool.{eq-eqb, ne_eqb, cond-true, cond-false, cond_both}
use Rattle.model.specs.Limits.{Limits}
use Rattle.model.specs.Clock.{Clock}
use Rattle.model.specs.Put.{Put, Body}
use Rattle.model.specs.Delivery.{Delivery, ready, nothing_new, counted, enqueued, learned, Run, begin, take_one, settle, stamped}
use Rattle.model.specs.Store.{new_store, shown, stored_all}
use Rattle.model.specs.Replica.{Replica, Event, put, get, came, has, tell, garbled, refused, event_number, legible, in_range, possible, log_room, queue_room, Check, checks, first_failing, refusal, accepted, place, moves, moved, says, answer, after, takes, replica, history}
use Rattle.model.specs.Theorems.{RefusalChangesNothing, AgainChangesNothing, ClockMonotone, not_back, ViewMonotone, StoreIsFold}
use Rattle.model.proofs.Clocks.{Below, at_below, tick_up}
use Rattle.model.proofs.Steps.{settle_keeps, deliver_is}
use Rattle.model.proofs.Store.{stored_append, view_on}

-- THE FIRST THAT FAILS is none exactly if all pass
abbrev AllPass : List Check → Type 0
AllPass [] = Unit {0}
AllPass (c ∷ cs) = (c.passes ≡ true) × AllPass cs

abbrev Numbered : List Check → Type 0
Numbered [] = Unit {0}
Numbered (c ∷ cs) = (0 < c.refusal) × Numbered cs

none_fails : (cs : List Check) → Numbered cs → first_failing cs ≡ 0 → AllPass cs
unfolding first_failing
none_fails [] n = λ e. tt
none_fails (c ∷ cs) n = cond_both c.passes (first_failing cs) c.refusal (λ z. z ≡ 0 → (c.passes ≡ true) × AllPass cs) (λ t e. (t, none_fails cs n.1 e)) (λ _ e. absurd (omega (arith, n.0)))

all_pass : (cs : List Check) → AllPass cs → first_failing cs ≡ 0
unfolding first_failing
all_pass [] p = refl
all_pass (c ∷ cs) p = cond-true c.passes (first_failing cs) c.refusal p.0 ∙ all_pass cs p.1

-- the checks of an event by name
pub record Passed (l : Limits) (d : Delivery Body) (e : Event) : Type 0 where
  pub is_legible : legible e ≡ true
  pub is_valid : (l.supports (event_number e) && in_range l e) ≡ true
  pub is_possible : possible d e ≡ true
  pub has_log_room : log_room l d e ≡ true
  pub has_queue_room : queue_room l d e ≡ true

pub passed : (l : Limits) (r : Replica) (e : Event) → refusal l r e ≡ 0 → Passed l r.delivery e
passed l r e t =
    let a : AllPass (checks l r.delivery e) = none_fails (checks l r.delivery e) (omega arith) t in
    record { is_legible = a.0; is_valid = a.1.0; is_possible = a.1.1.0; has_log_room = a.1.1.1.0; has_queue_room = a.1.1.1.1.0 }

pub pass : (l : Limits) (r : Replica) (e : Event) → Passed l r.delivery e → refusal l r e ≡ 0
pass l r e p = all_pass (checks l r.delivery e) (p.is_legible, (p.is_valid, (p.is_possible, (p.has_log_room, (p.has_queue_room, tt)))))

-- OF ANY STATE
pub after_keeps : (P : Replica → Type 0) (l : Limits) (r : Replica) (e : Event) → P r → P (moved (moves l r.delivery e) r.store) → P (after l r e)
after_keeps P l r e a b = cond_both (accepted l r e) (moved (moves l r.delivery e) r.store) r P (λ _. b) (λ _. a)

pub answer_accepted : (l : Limits) (r : Replica) (e : Event) → refusal l r e ≡ 0 → answer l r e ≡ says r e
answer_accepted l r e t = cond-true (accepted l r e) (says r e) (refused (refusal l r e) (place e)) (eq-eqb (refusal l r e) 0 t)

pub after_accepted : (l : Limits) (r : Replica) (e : Event) → refusal l r e ≡ 0 → after l r e ≡ moved (moves l r.delivery e) r.store
after_accepted l r e t = cond-true (accepted l r e) (moved (moves l r.delivery e) r.store) r (eq-eqb (refusal l r e) 0 t)

pub refusal_changes_nothing : RefusalChangesNothing
refusal_changes_nothing l r e t = cond-false (accepted l r e) (moved (moves l r.delivery e) r.store) r (ne_eqb (refusal l r e) 0 (omega arith))

pub again_changes_nothing : AgainChangesNothing
unfolding moves stored_all
again_changes_nothing l r p h =
    let d : Delivery Body = r.delivery in
    after_keeps (λ z. z ≡ r) l r (came p) refl
    (ap (λ m. moved m r.store) (cond-true (nothing_new d p) (begin d) (cond (ready d p) (settle l.waiting_most (take_one p (begin d))) (begin (enqueued p d))) h))

-- what each of the three changes keeps, every event keeps
module _ (P : Delivery Body → Type 0) (l : Limits) (d : Delivery Body) where
  moves_keep : (e : Event) → P d → ((g : Delivery Body) (p : Put Body) → P g → P (counted p g)) → ((p : Put Body) → P (enqueued p d)) → ((j : ℕ) (c : Clock) → P (learned j c d)) → P (moves l d e).now
  unfolding moves
  moves_keep (put b) o t h k = t d (stamped b d) o
  moves_keep (get n) o t h k = o
  moves_keep (came p) o t h k =
      deliver_is (λ m. P m.now) l p d o
      (λ _ _. settle_keeps (λ m. P m.now) (λ m q f _ _. t m.now q f) l.waiting_most (take_one p (begin d)) (t d p o)) (λ _ _. h p)
  moves_keep (has j c) o t h k = k j c
  moves_keep tell o t h k = o
  moves_keep (garbled n) o t h k = o

pub moves_me : (l : Limits) (d : Delivery Body) (e : Event) → (moves l d e).now.me ≡ d.me
moves_me l d e = moves_keep (λ g. g.me ≡ d.me) l d e refl (λ g p f. f) (λ p. refl) (λ j c. refl)

pub moves_up : (l : Limits) (d : Delivery Body) (e : Event) → Below d.clock (moves l d e).now.clock
moves_up l d e = moves_keep (λ g. Below d.clock g.clock) l d e (λ j. omega arith) (λ g p f j. omega (arith, f j, tick_up g.clock p.from j)) (λ p j. omega arith) (λ n c j. omega arith)

pub clock_up : (l : Limits) (r : Replica) (e : Event) → Below r.delivery.clock (after l r e).delivery.clock
clock_up l r e = after_keeps (λ z. Below r.delivery.clock z.delivery.clock) l r e (λ j. omega arith) (moves_up l r.delivery e)

pub clock_monotone : ClockMonotone
clock_monotone l r e = at_below r.delivery.clock (after l r e).delivery.clock (clock_up l r e)

pub view_monotone : ViewMonotone
unfolding stored_all
view_monotone l r e k = after_keeps (λ z. not_back (shown r.store k) (shown z.store k) ≡ true) l r e (view_on [] r.store k) (view_on (moves l r.delivery e).taken r.store k)

stored_or_not : (b : Bool) (m : Run Body) (r : Replica) → (cond b (moved m r.store) r).store ≡ stored_all (cond b m.taken []) r.store
unfolding stored_all
stored_or_not true m r = refl
stored_or_not false m r = refl

pub store_is_fold : StoreIsFold
unfolding replica history stored_all
store_is_fold l i [] = refl
store_is_fold l i (e ∷ es) =
    let r : Replica = replica l i es in
    stored_or_not (accepted l r e) (moves l r.delivery e) r
    ∙ (ap (stored_all (takes l r e)) (store_is_fold l i es) ∙ sym (stored_append (takes l r e) (history l i es) (new_store l)))
