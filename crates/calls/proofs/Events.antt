-- Each event, over what the code reads and does.
use Rattle.std.proofs.Common.{◌≡◌, Ok, Err, ℕ, suc, ◌<◌, ◌≤◌, Bool, true, false, not, ◌||◌, eqb, ltb, [], ◌∷◌, length, Some, None, Option, sym, refl, ap, ◌∙◌, subst, arith, le-ltb, lt-ltb, eq-eqb, ne_eqb}
use borrow.Author.Tests.{clash}
use Rattle.model.specs.Limits.{Limits, count_bound}
use Rattle.model.specs.Clock.{Clock}
use Rattle.model.specs.Put.{Put, Body, had, good_body}
use Rattle.model.specs.Delivery.{nothing_new, ready}
use Rattle.model.specs.Replica.{Replica, Event, put, get, came, has, tell, legible, in_range, possible, log_room, queue_room, refusal, place, moved, moves, after}
use Rattle.puts.specs.Values.{clock_size, code_clock, code_put, put_of}
use Rattle.puts.specs.Words.{Slot, code_slot}
use Rattle.puts.specs.Values.{Put as CodePut}
use Rattle.puts.specs.declared.Clock.{Clock as CodeClock}
use Rattle.puts.proofs.Padded.{had_code}
use Rattle.memory.specs.Valid.{Sound, SoundSlot, Valid}
use Rattle.memory.specs.State.{own_count}
use Rattle.ranges.proofs.Tests.{both_hold, first_fails, rest_fails}
use Rattle.logs.specs.State.{Held}
use Rattle.logs.specs.declared.Replica.{Replica as Lent}
use Rattle.model.proofs.Replica.{after_accepted, after_keeps}
use Rattle.calls.specs.Answered.{AllSupported, Answer, code_answer, code_says, one_put, reason}
use Rattle.calls.specs.declared.Reason.{Reason}
use Rattle.calls.proofs.Acts.{Right, accepts, back, code_accepted, code_refused, refuses_3, refuses_4, refuses_5, right_event}

-- what was read of a slot
pub slot_none : (s : Slot) → ◌≡◌ {A = Option CodePut} None (code_slot s) → s ≡ []
unfolding code_slot
slot_none [] e = refl
slot_none (q ∷ qs) e = let z : ◌≡◌ {A = ℕ} 0 1 = cc in absurd (omega arith)

pub slot_some : (l : Limits) (s : Slot) (p : CodePut) → SoundSlot l s → Some p ≡ code_slot s → s ≡ one_put l.replicas p ∷ []
unfolding code_slot SoundSlot
slot_some l [] p h e = let z : ◌≡◌ {A = ℕ} 0 1 = cc in absurd (omega arith)
slot_some l (q ∷ qs) p h e =
    let same : p ≡ code_put q = cc in
    (λ i. q ∷ h.1 i) ∙ ap (λ x. x ∷ []) (sym (ap (one_put l.replicas) same ∙ back l q h.0))

-- room for an own put in the log, and a number
module _ (l : Limits) (r : Replica) (b : Body) (own held most : ℕ) (is_own : own ≡ own_count r) (is_held : held ≡ length r.delivery.log) (is_most : most ≡ l.log_most) where
  pub log_full : most ≤ held → log_room l r.delivery (put b) ≡ false
  unfolding log_room
  log_full g = first_fails (ltb (length r.delivery.log) l.log_most) (ltb (suc (own_count r)) count_bound) (le-ltb (length r.delivery.log) l.log_most (omega arith))

  pub counts_end : 4294967295 ≤ own → log_room l r.delivery (put b) ≡ false
  unfolding log_room
  counts_end g = rest_fails (ltb (length r.delivery.log) l.log_most) (ltb (suc (own_count r)) count_bound) (le-ltb (suc (own_count r)) count_bound (omega arith))

  pub has_room : held < most → own < 4294967295 → log_room l r.delivery (put b) ≡ true
  unfolding log_room
  has_room g k =
      both_hold (ltb (length r.delivery.log) l.log_most) (ltb (suc (own_count r)) count_bound)
      (lt-ltb (length r.delivery.log) l.log_most (omega arith)) (lt-ltb (suc (own_count r)) count_bound (omega arith))

-- either of two tests
left_holds : (a b : Bool) → a ≡ true → (a || b) ≡ true
left_holds true b e = refl
left_holds false b e = absurd (clash e)

right_holds : (a b : Bool) → b ≡ true → (a || b) ≡ true
right_holds true b e = refl
right_holds false b e = e

neither_holds : (a b : Bool) → a ≡ false → b ≡ false → (a || b) ≡ false
neither_holds true b e f = absurd (clash (sym e))
neither_holds false b e f = f

-- a put that came
module _ (l : Limits) (r : Replica) (q : Put Body) (p : CodePut) (v : Valid l r) (s : Sound l q) (e : p ≡ code_put q) where
  pub had_is : (c : CodeClock) (b : Bool) → c ≡ code_clock r.delivery.clock → b ≡ had c.counts (put_of p) → b ≡ had r.delivery.clock q
  had_is c b f g = g ∙ (λ i. had (f i).counts (put_of (e i))) ∙ had_code r.delivery.clock q (subst (λ n. n ≤ clock_size) (sym v.fits.delivery.clock) v.fits.delivery.replicas) s.fit

  module _ (me : ℕ) (b : Bool) (is_me : me ≡ r.delivery.me) (is_had : b ≡ had r.delivery.clock q) where
    pub possible_no : p.from ≡ me → b ≡ false → possible r.delivery (came q) ≡ false
    unfolding possible
    possible_no f g =
        neither_holds (not (eqb q.from r.delivery.me)) (had r.delivery.clock q)
        (ap not (eq-eqb q.from r.delivery.me (sym (ap (λ x. x.from) e) ∙ f ∙ is_me))) (sym is_had ∙ g)

    pub possible_had : b ≡ true → possible r.delivery (came q) ≡ true
    unfolding possible
    possible_had g = right_holds (not (eqb q.from r.delivery.me)) (had r.delivery.clock q) (sym is_had ∙ g)

    pub possible_other : (p.from ≡ me → ⊥) → possible r.delivery (came q) ≡ true
    unfolding possible
    possible_other f =
        left_holds (not (eqb q.from r.delivery.me)) (had r.delivery.clock q)
        (ap not (ne_eqb q.from r.delivery.me (λ z. f (ap (λ x. x.from) e ∙ z ∙ sym is_me))))

-- room for it in the queue
module _ (l : Limits) (r : Replica) (q : Put Body) where
  abbrev Parts : Bool → Bool → Bool → Type 0
  Parts a b c = ((a || b) || c) ≡ queue_room l r.delivery (came q)

  parts : Parts (nothing_new r.delivery q) (ready r.delivery q) (ltb (length r.delivery.waiting) l.waiting_most)
  unfolding queue_room
  parts = refl

  pub room_left : (n most : ℕ) → n ≡ length r.delivery.waiting → most ≡ l.waiting_most → n < most → queue_room l r.delivery (came q) ≡ true
  room_left n most e f g =
      sym parts ∙ right_holds (nothing_new r.delivery q || ready r.delivery q) (ltb (length r.delivery.waiting) l.waiting_most)
      (lt-ltb (length r.delivery.waiting) l.waiting_most (omega arith))

  pub room_again : nothing_new r.delivery q ≡ true → queue_room l r.delivery (came q) ≡ true
  room_again e =
      sym parts ∙ left_holds (nothing_new r.delivery q || ready r.delivery q) (ltb (length r.delivery.waiting) l.waiting_most)
      (left_holds (nothing_new r.delivery q) (ready r.delivery q) e)

  pub room_ready : ready r.delivery q ≡ true → queue_room l r.delivery (came q) ≡ true
  room_ready e =
      sym parts ∙ left_holds (nothing_new r.delivery q || ready r.delivery q) (ltb (length r.delivery.waiting) l.waiting_most)
      (right_holds (nothing_new r.delivery q) (ready r.delivery q) e)

  pub no_room : (n most : ℕ) → n ≡ length r.delivery.waiting → most ≡ l.waiting_most → most ≤ n → nothing_new r.delivery q ≡ false → ready r.delivery q ≡ false → queue_room l r.delivery (came q) ≡ false
  no_room n most e f g a b =
      sym parts ∙ neither_holds (nothing_new r.delivery q || ready r.delivery q) (ltb (length r.delivery.waiting) l.waiting_most)
      (neither_holds (nothing_new r.delivery q) (ready r.delivery q) a b) (le-ltb (length r.delivery.waiting) l.waiting_most (omega arith))

module _ (l : Limits) (r : Replica) (all : AllSupported l) where
  -- EACH EVENT: get
  pub gets : (k : ℕ) → k < l.keys → refusal l r (get k) ≡ 0
  unfolding legible in_range place possible log_room queue_room
  gets k b = accepts l r (get k) (right_event l (get k) all refl (lt-ltb k l.keys b) refl) refl refl refl

  -- tell
  pub tells : refusal l r tell ≡ 0
  unfolding legible in_range place possible log_room queue_room
  tells = accepts l r tell (right_event l tell all refl refl refl) refl refl refl

  -- put
  put_right : (b : Body) → good_body l b ≡ true → Right l (put b)
  unfolding legible in_range place
  put_right b g = right_event l (put b) all refl g refl

  pub puts_refused : (b : Body) → good_body l b ≡ true → log_room l r.delivery (put b) ≡ false → refusal l r (put b) ≡ 4
  unfolding possible
  puts_refused b g f = refuses_4 l r (put b) (put_right b g) refl f

  pub puts_made : (b : Body) → good_body l b ≡ true → log_room l r.delivery (put b) ≡ true → refusal l r (put b) ≡ 0
  unfolding possible queue_room
  puts_made b g f = accepts l r (put b) (put_right b g) refl f refl

  -- came
  came_right : (q : Put Body) → in_range l (came q) ≡ true → Right l (came q)
  unfolding legible place
  came_right q g = right_event l (came q) all refl g refl

  pub comes_impossible : (q : Put Body) → in_range l (came q) ≡ true → possible r.delivery (came q) ≡ false → refusal l r (came q) ≡ 3
  comes_impossible q g f = refuses_3 l r (came q) (came_right q g) f

  pub comes_full : (q : Put Body) → in_range l (came q) ≡ true → possible r.delivery (came q) ≡ true → queue_room l r.delivery (came q) ≡ false → refusal l r (came q) ≡ 5
  unfolding log_room
  comes_full q g p f = refuses_5 l r (came q) (came_right q g) p refl f

  pub comes : (q : Put Body) → in_range l (came q) ≡ true → possible r.delivery (came q) ≡ true → queue_room l r.delivery (came q) ≡ true → refusal l r (came q) ≡ 0
  unfolding log_room
  comes q g p f = accepts l r (came q) (came_right q g) p refl f

  -- has
  has_right : (j : ℕ) (c : Clock) → in_range l (has j c) ≡ true → Right l (has j c)
  unfolding legible place
  has_right j c g = right_event l (has j c) all refl g refl

  pub hears_impossible : (j : ℕ) (c : Clock) → in_range l (has j c) ≡ true → possible r.delivery (has j c) ≡ false → refusal l r (has j c) ≡ 3
  hears_impossible j c g f = refuses_3 l r (has j c) (has_right j c g) f

  pub hears : (j : ℕ) (c : Clock) → in_range l (has j c) ≡ true → possible r.delivery (has j c) ≡ true → refusal l r (has j c) ≡ 0
  unfolding log_room queue_room
  hears j c g p = accepts l r (has j c) (has_right j c g) p refl refl

-- a refusal of the code
pub refused_as : (l : Limits) (r : Replica) (e : Event) (n : ℕ) (w : Reason) → w ≡ reason (suc n) 0 → place e ≡ 0 → refusal l r e ≡ suc n → Err w ≡ code_answer l r e
refused_as l r e n w f p z = ap Err f ∙ sym (code_refused l r e n z ∙ ap (λ k. Err (reason (suc n) k)) p)

-- an accepted one
pub accepted_as : (l : Limits) (r : Replica) (e : Event) (a : Answer) → a ≡ code_says r e → refusal l r e ≡ 0 → Ok a ≡ code_answer l r e
accepted_as l r e a f z = ap Ok f ∙ sym (code_accepted l r e z)

-- and what it did
pub done_as : (l : Limits) (r : Replica) (e : Event) (x : Lent) → refusal l r e ≡ 0 → Held l (moved (moves l r.delivery e) r.store) x → Held l (after l r e) x
done_as l r e x z h = subst (λ s. Held l s x) (sym (after_accepted l r e z)) h

-- an event that changes nothing
pub reads_only : (l : Limits) (r : Replica) (e : Event) (x : Lent) → moved (moves l r.delivery e) r.store ≡ r → Held l r x → Held l (after l r e) x
reads_only l r e x same h = after_keeps (λ s. Held l s x) l r e h (subst (λ s. Held l s x) (sym same) h)
