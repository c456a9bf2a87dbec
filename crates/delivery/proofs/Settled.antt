-- Those that wait, taken one after the other; and what comes of a put that came.
use Rattle.std.proofs.Common.{◌≡◌, ℕ, zero, suc, ◌+◌, ◌-◌, ◌<◌, Bool, true, false, cond, not, ◌&&◌, ◌||◌, eqb, ltb, ◌≢◌, List, [], ◌∷◌, length, get_or, Some, None, Option, sym, refl, ap, ◌∙◌, subst, arith}
use Rattle.std.specs.Option.{MatchOption}
use Rattle.std.proofs.lemmas.List.{nil_from_length}
use Rattle.std.proofs.lemmas.Bool.{eqb-false, ltb-true, leb-true, le-leb, ne_eqb, and_left, not-true, or_parts, cond-true, cond-false}
use Rattle.model.specs.Limits.{Limits}
use Rattle.model.specs.Clock.{Clock, at, below, tick}
use Rattle.model.specs.Put.{Put, Body, number, had}
use Rattle.model.specs.Delivery.{Delivery, ready, is_in, nothing_new, lacking, enqueued, Run, begin, take_one, first_ready, take_then, settle, deliver}
use Rattle.model.specs.Store.{Store, stored_all}
use Rattle.model.specs.Replica.{Replica, came, possible, queue_room, moved}
use Rattle.model.proofs.Clocks.{Below, tick_up}
use Rattle.memory.specs.State.{with_waiting}
use Rattle.logs.specs.declared.Replica.{Replica as Lent}
use Rattle.logs.specs.State.{Held}
use Rattle.logs.proofs.Changes.{begun}
use Rattle.puts.specs.Values.{Put as CodePut}
use Rattle.puts.specs.Values.{code_put}
use Rattle.puts.specs.Words.{code_slot}
use Rattle.delivery.specs.Steps.{with_delivery, took, if_ready, Unswept}
use Rattle.delivery.proofs.Reading.{none_some, some_some, none_chosen, some_chosen}

-- THE LOOP: rounds are left, and what they make of the run is what all make of the first
pub record Going (l : Limits) (m₀ : Run Body) (s : Store) (x : Lent) (rounds : ℕ) : Type 0 where
  pub run : Run Body
  pub unswept : Unswept l run s x
  pub same : settle rounds run ≡ settle l.waiting_most m₀

-- WHAT IS HAD IS NOT READY, so it may stay in the queue
first_lacking : (c : Clock) (d e : Delivery Body) (ps : List (Put Body)) → d.clock ≡ c → e.clock ≡ c → first_ready d (lacking c ps) ≡ first_ready e ps
unfolding first_ready
first_lacking c d e [] ed ee = refl
first_lacking c d e (p ∷ ps) ed ee = by (had c p) refl (first_lacking c d e ps ed ee)
  where
    by : (b : Bool) → had c p ≡ b → first_ready d (lacking c ps) ≡ first_ready e ps → first_ready d (cond (not b) (p ∷ lacking c ps) (lacking c ps)) ≡ cond (ready e p) (p ∷ []) (first_ready e ps)
    by true h r =
        let n = leb-true (number p) (at c p.from) h in
        let z : number p ≢ suc (at e.clock p.from) = λ q. omega (arith, ap (λ x. at x p.from) ee) in
        r ∙ sym (cond-false (ready e p) (p ∷ []) (first_ready e ps) (and_left (eqb (number p) (suc (at e.clock p.from))) (below p.seen e.clock) (ne_eqb (number p) (suc (at e.clock p.from)) z)))
    by false h r = λ i. cond (eqb (number p) (suc (at ((ed ∙ sym ee) i) p.from)) && below p.seen ((ed ∙ sym ee) i)) (p ∷ []) (r i)

-- and what was had is had
lacking_again : (c d : Clock) (ps : List (Put Body)) → Below c d → lacking d (lacking c ps) ≡ lacking d ps
lacking_again c d [] f = refl
lacking_again c d (p ∷ ps) f = by (had c p) refl (lacking_again c d ps f)
  where
    by : (b : Bool) → had c p ≡ b → lacking d (lacking c ps) ≡ lacking d ps → lacking d (cond (not b) (p ∷ lacking c ps) (lacking c ps)) ≡ cond (not (had d p)) (p ∷ lacking d ps) (lacking d ps)
    by true h r =
        let n = leb-true (number p) (at c p.from) h in
        r ∙ sym (cond-false (not (had d p)) (p ∷ lacking d ps) (lacking d ps) (ap not (le-leb (number p) (at d p.from) (omega (arith, f p.from)))))
    by false h r = ap (λ t. cond (not (had d p)) (p ∷ t) t) r

-- THE FIRST THAT IS READY, from what is read of each slot
pub first_is : (d : Delivery Body) (ps : List (Put Body)) (x : Put Body) (r : Option CodePut) → let Gives : ℕ → Option CodePut → Type 0 = λ k o. k < length ps → o ≡ code_slot (if_ready d (get_or ps k x)) in
    MatchOption r ((k : ℕ) → k < length ps → Gives k None) (λ y. (i : ℕ) × (i < length ps) × Gives i (Some y) × ((k : ℕ) → k < i → Gives k None)) → r ≡ code_slot (first_ready d ps)
unfolding first_ready code_slot
first_is d [] x None h = refl
first_is d [] x (Some y) h = absurd (omega (arith, h.1))
first_is d (p ∷ ps) x None h =
    let n = none_chosen (ready d p) p (h 0 (omega arith) (omega arith)) in
    first_is d ps x None (λ k a b. h (suc k) (omega arith) (omega arith)) ∙ sym (ap code_slot (cond-false (ready d p) (p ∷ []) (first_ready d ps) n))
first_is d (p ∷ ps) x (Some y) (zero, a, e, f) =
    let b = some_chosen (ready d p) p y (e a) in
    ap (λ z. Some z) b.1 ∙ sym (ap code_slot (cond-true (ready d p) (p ∷ []) (first_ready d ps) b.0))
first_is d (p ∷ ps) x (Some y) (suc i, a, e, f) =
    let n = none_chosen (ready d p) p (f 0 (omega arith) (omega arith)) in
    first_is d ps x (Some y) (i, omega arith, (λ b. e a), λ k b c. f (suc k) (omega arith) (omega arith)) ∙ sym (ap code_slot (cond-false (ready d p) (p ∷ []) (first_ready d ps) n))

-- and what is known of it
none_code : (ps : List (Put Body)) → None ≡ code_slot ps → ps ≡ []
unfolding code_slot
none_code [] e = refl
none_code (p ∷ ps) e = absurd (none_some _ e)

pub no_first : (d : Delivery Body) (ps : List (Put Body)) (o : Option CodePut) → o ≡ None → o ≡ code_slot (first_ready d ps) → first_ready d ps ≡ []
no_first d ps o n e = none_code (first_ready d ps) (sym n ∙ e)

-- the put at some place, which is ready
abbrev First : Delivery Body → List (Put Body) → Put Body → CodePut → Type 0
First d ps x p = (i : ℕ) × (i < length ps) × (p ≡ code_put (get_or ps i x)) × (ready d (get_or ps i x) ≡ true) × (first_ready d ps ≡ get_or ps i x ∷ [])

pub a_first : (d : Delivery Body) (ps : List (Put Body)) (x : Put Body) (p : CodePut) → Some p ≡ code_slot (first_ready d ps) → First d ps x p
unfolding first_ready code_slot
a_first d [] x p e = absurd (none_some p (sym e))
a_first d (q ∷ ps) x p e = by (ready d q) refl (a_first d ps x p)
  where
    by : (b : Bool) → ready d q ≡ b → (Some p ≡ code_slot (first_ready d ps) → First d ps x p) → First d (q ∷ ps) x p
    by true t more =
        let f = cond-true (ready d q) (q ∷ []) (first_ready d ps) t in
        (0, omega arith, some_some p (code_put q) (e ∙ ap code_slot f), t, f)
    by false t more =
        let f = cond-false (ready d q) (q ∷ []) (first_ready d ps) t in
        let r = more (e ∙ ap code_slot f) in
        (suc r.0, omega (arith, r.1), r.2, r.3, f ∙ r.4)

-- the first that is ready of all that are in the queue is the first of those that wait
pub first_of_all : (l : Limits) (m : Run Body) (s : Store) (x : Lent) (u : Unswept l m s x) → first_ready m.now m.now.waiting ≡ first_ready (with_waiting u.all (moved m s)).delivery u.all
first_of_all l m s x u = ap (first_ready m.now) (sym u.rest) ∙ first_lacking m.now.clock m.now (with_waiting u.all (moved m s)).delivery u.all refl refl

-- one more is taken, and the queue is as it was
pub taken_unswept : (l : Limits) (m : Run Body) (s : Store) (x y : Lent) (q : Put Body) (u : Unswept l m s x) → Held l (with_waiting u.all (took q (with_waiting u.all (moved m s)))) y → Unswept l (take_one q m) s y
unfolding stored_all
taken_unswept l m s x y q u h =
    let c = m.now.clock in
    let d = tick c q.from in
    record { all = u.all; held = h; rest = sym (lacking_again c d u.all (tick_up c q.from)) ∙ ap (lacking d) u.rest }

pub settle_takes : (n : ℕ) (m : Run Body) (q : Put Body) → first_ready m.now m.now.waiting ≡ q ∷ [] → settle (suc n) m ≡ settle n (take_one q m)
unfolding settle take_then
settle_takes n m q e = ap (λ ps. take_then (settle n) ps m) e

-- of the rounds to an end one is done
pub settle_on : (end i : ℕ) (m : Run Body) (q : Put Body) → i < end → first_ready m.now m.now.waiting ≡ q ∷ [] → settle (end - (i + 1)) (take_one q m) ≡ settle (end - i) m
settle_on end i m q h e =
    let z : end - i ≡ suc (end - (i + 1)) = omega arith in
    sym (ap (λ n. settle n m) z ∙ settle_takes (end - (i + 1)) m q e)

pub settle_ends : (n : ℕ) (m : Run Body) → first_ready m.now m.now.waiting ≡ [] → settle n m ≡ m
unfolding settle take_then
settle_ends zero m e = refl
settle_ends (suc n) m e = ap (λ ps. take_then (settle n) ps m) e

pub settle_none : (n : ℕ) (m : Run Body) → n ≡ 0 → settle n m ≡ m
unfolding settle
settle_none n m e = ap (λ k. settle k m) e

-- nothing waits
pub settled_empty : (l : Limits) (m : Run Body) (s : Store) (x : Lent) (u : Unswept l m s x) → length u.all ≡ 0 → Held l (moved (settle l.waiting_most m) s) x
unfolding first_ready
settled_empty l m s x u e =
    let none : u.all ≡ [] = nil_from_length u.all e in
    let waits : m.now.waiting ≡ [] = sym u.rest ∙ ap (lacking m.now.clock) none in
    let R : Run Body → Type 0 = λ y. Held l (moved y s) x in
    let W : List (Put Body) → Type 0 = λ ws. Held l (with_waiting ws (moved m s)) x in
    subst R (sym (settle_ends l.waiting_most m (ap (first_ready m.now) waits))) (subst W (none ∙ sym waits) u.held)

or_false : (b : Bool) → (b || false) ≡ b
or_false true = refl
or_false false = refl

-- A PUT THAT CAME is taken, and the queue is as it was
pub taken_first : (l : Limits) (r : Replica) (x : Lent) (q : Put Body) → Held l (with_waiting r.delivery.waiting (took q r)) x → Unswept l (take_one q (begin r.delivery)) r.store x
unfolding stored_all
taken_first l r x q h = record { all = r.delivery.waiting; held = h; rest = refl }

module _ (l : Limits) (r : Replica) (q : Put Body) where
  abbrev its : Delivery Body
  its = r.delivery

  -- nothing new
  pub comes_again : nothing_new its q ≡ true → r ≡ moved (deliver l q its) r.store
  comes_again e = sym (ap (λ m. moved m r.store) (cond-true (nothing_new its q) (begin its) (cond (ready its q) (settle l.waiting_most (take_one q (begin its))) (begin (enqueued q its))) e) ∙ begun r)

  new_is : nothing_new its q ≡ false → deliver l q its ≡ cond (ready its q) (settle l.waiting_most (take_one q (begin its))) (begin (enqueued q its))
  new_is e = cond-false (nothing_new its q) (begin its) (cond (ready its q) (settle l.waiting_most (take_one q (begin its))) (begin (enqueued q its))) e

  -- too early
  pub comes_early : nothing_new its q ≡ false → ready its q ≡ false → with_delivery (enqueued q its) r ≡ moved (deliver l q its) r.store
  comes_early e n =
      sym (ap (λ m. moved m r.store) (new_is e ∙ cond-false (ready its q) (settle l.waiting_most (take_one q (begin its))) (begin (enqueued q its)) n) ∙ begun (with_delivery (enqueued q its) r))

  -- ready
  pub comes_ready : nothing_new its q ≡ false → ready its q ≡ true → moved (settle l.waiting_most (take_one q (begin its))) r.store ≡ moved (deliver l q its) r.store
  comes_ready e n = sym (ap (λ m. moved m r.store) (new_is e ∙ cond-true (ready its q) (settle l.waiting_most (take_one q (begin its))) (begin (enqueued q its)) n))

  -- by the checks, what is new is another's, and what waits has room
  pub is_others : nothing_new its q ≡ false → possible its (came q) ≡ true → q.from ≢ its.me
  unfolding possible
  is_others e p =
      let h : had its.clock q ≡ false = (or_parts (had its.clock q) (is_in q its.waiting) e).0 in
      let n : not (eqb q.from its.me) ≡ true = sym (or_false (not (eqb q.from its.me))) ∙ sym (ap (λ b. not (eqb q.from its.me) || b) h) ∙ p in
      eqb-false q.from its.me (not-true (eqb q.from its.me) n)

  pub has_room : nothing_new its q ≡ false → ready its q ≡ false → queue_room l its (came q) ≡ true → length its.waiting < l.waiting_most
  unfolding queue_room
  has_room e n p = ltb-true (length its.waiting) l.waiting_most (sym (λ i. (e i || n i) || ltb (length its.waiting) l.waiting_most) ∙ p)
