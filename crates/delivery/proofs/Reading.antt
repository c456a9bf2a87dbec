-- Going by what is read of a slot.
use Rattle.std.proofs.Common.{◌≡◌, ℕ, zero, suc, ◌+◌, ◌<◌, Bool, true, false, cond, ◌||◌, List, [], ◌∷◌, length, get_or, Some, None, Option, sym, refl, ap, ◌∙◌, subst, arith}
use Rattle.std.specs.Bool.{MatchBool}
use Rattle.std.specs.List.{range_with_len, HoldsAt, AllWithin}
use Rattle.std.proofs.lemmas.List.FromFn.{length-range_with_len, get_or-range_with_len}
use Rattle.model.specs.Put.{Put, Body, number, same_put}
use Rattle.model.specs.Limits.{Limits}
use Rattle.model.specs.Delivery.{Delivery, ready, is_in}
use Rattle.model.specs.Replica.{Replica}
use Rattle.puts.specs.declared.Clock.{Clock as CodeClock}
use Rattle.puts.specs.Values.{Put as CodePut}
use Rattle.puts.specs.declared.words.Head.{Head}
use Rattle.puts.specs.Values.{clock_size, pad, put_of, code_clock, code_put, Fit}
use Rattle.puts.specs.Words.{Slot, FitSlot, code_slot, code_head}
use Rattle.puts.proofs.Padded.{ready_code}
use Rattle.slots.specs.Image.{row_count, memory, put_at, head_at}
use Rattle.slots.proofs.Slots.{slot_laws}
use Rattle.memory.specs.Valid.{Sound, Fits}
use Rattle.memory.specs.State.{with_clock}
use Rattle.memory.proofs.State.{reads}
use Rattle.logs.specs.declared.place.Place.{Place}
use Rattle.logs.specs.State.{StandsIn}

pub none_some : {A : Type 0} (x : A) → ◌≡◌ {A = Option A} None (Some x) → ⊥
none_some x e = let z : ◌≡◌ {A = ℕ} 0 1 = cc in omega arith

pub some_some : {A : Type 0} (x y : A) → ◌≡◌ {A = Option A} (Some x) (Some y) → x ≡ y
some_some x y e = cc

-- none or one, by a test
pub none_chosen : (b : Bool) (q : Put Body) → None ≡ code_slot (cond b (q ∷ []) []) → b ≡ false
unfolding code_slot
none_chosen true q e = absurd (none_some (code_put q) e)
none_chosen false q e = refl

pub some_chosen : (b : Bool) (q : Put Body) (p : CodePut) → Some p ≡ code_slot (cond b (q ∷ []) []) → (b ≡ true) × (p ≡ code_put q)
unfolding code_slot
some_chosen true q p e = (refl, some_some p (code_put q) e)
some_chosen false q p e = absurd (none_some p (sym e))

pub chosen_none : (b : Bool) (q : Put Body) → b ≡ false → None ≡ code_slot (cond b (q ∷ []) [])
unfolding code_slot
chosen_none b q e = sym (ap (λ t. code_slot (cond t (q ∷ []) [])) e)

pub chosen_some : (b : Bool) (q : Put Body) (p : CodePut) → b ≡ true → p ≡ code_put q → Some p ≡ code_slot (cond b (q ∷ []) [])
unfolding code_slot
chosen_some b q p e h = ap (λ x. Some x) h ∙ sym (ap (λ t. code_slot (cond t (q ∷ []) [])) e)

-- what is read of a put that waits
module _ (l : Limits) (r : Replica) (m : List ℕ) (x : Place) (s : StandsIn l r m x) (i : ℕ) (h : i < length r.delivery.waiting) (d : Put Body) (k : ℕ) (ek : k ≡ x.layout.waiting.base + i) where
  here : k ≡ (l.keys + l.log_most) + i
  here = ek ∙ ap (λ b. b + i) s.laid.waiting.0

  pub head_here : (o : Option Head) → o ≡ head_at k m → o ≡ Some (record { from = (get_or r.delivery.waiting i d).from; number = number (get_or r.delivery.waiting i d) })
  head_here o e = e ∙ (λ j. head_at (here j) (s.fitted.mem j)) ∙ (reads l r s.fitted.fits).waits_head i d h

  pub put_here : (o : Option CodePut) → o ≡ put_at k m → o ≡ Some (code_put (get_or r.delivery.waiting i d))
  put_here o e = e ∙ (λ j. put_at (here j) (s.fitted.mem j)) ∙ (reads l r s.fitted.fits).waits i d h

-- and of any slot with a put
pub head_there : (rs : List (List ℕ)) (ss : List Slot) (k : ℕ) (m : List ℕ) (q : Put Body) (o : Option Head) → length rs ≡ row_count → k < length ss → get_or ss k [] ≡ q ∷ [] → Fit q → m ≡ memory rs ss → o ≡ head_at k m →
    o ≡ Some (record { from = q.from; number = number q })
unfolding FitSlot code_head
head_there rs ss k m q o n h es f em e =
    let P : Slot → Type 0 = FitSlot in
    e ∙ ap (head_at k) em ∙ slot_laws.heads rs ss k n h (subst P (sym es) f) ∙ ap code_head es

-- what the code says of a put by the clock: whether it is ready
pub ready_is : (l : Limits) (r : Replica) (q : Put Body) (x : CodeClock) (p : CodePut) (b : Bool) → Fits l r → Sound l q → x ≡ code_clock r.delivery.clock → p ≡ code_put q →
    ((d : Delivery Body) → d.clock ≡ x.counts → b ≡ ready d (put_of p)) → b ≡ ready r.delivery q
ready_is l r q x p b f s ex ep says =
    let g : Delivery Body = (with_clock (pad clock_size r.delivery.clock) r).delivery in
    says g (sym (ap (λ (y : CodeClock). y.counts) ex)) ∙ ap (λ (y : CodePut). ready g (put_of y)) ep ∙ ready_code r.delivery g q refl (s.seen ∙ sym f.delivery.clock) s.fit

-- whether a put is among some
or_true : (b : Bool) → (b || true) ≡ true
or_true true = refl
or_true false = refl

is_in_here : (q : Put Body) (ps : List (Put Body)) (i : ℕ) (d : Put Body) → i < length ps → same_put q (get_or ps i d) ≡ true → is_in q ps ≡ true
unfolding is_in
is_in_here q [] i d h e = absurd (omega arith)
is_in_here q (p ∷ ps) zero d h e = ap (λ b. b || is_in q ps) e
is_in_here q (p ∷ ps) (suc i) d h e = ap (λ b. same_put q p || b) (is_in_here q ps i d (omega arith) e) ∙ or_true (same_put q p)

is_in_none : (q : Put Body) (ps : List (Put Body)) (d : Put Body) → ((i : ℕ) → i < length ps → same_put q (get_or ps i d) ≡ false) → is_in q ps ≡ false
unfolding is_in
is_in_none q [] d f = refl
is_in_none q (p ∷ ps) d f = (λ i. f 0 (omega arith) i || is_in_none q ps d (λ j h. f (suc j) (omega arith)) i)

pub is_in_by : (q : Put Body) (ps : List (Put Body)) (d : Put Body) (b : Bool) → let n : ℕ = length ps in let is : List ℕ = range_with_len 0 n in
    MatchBool b ((k : ℕ) × (k < length is) × HoldsAt (λ i. i < n → same_put q (get_or ps i d) ≡ true) is k) (AllWithin (λ i. i < n → same_put q (get_or ps i d) ≡ false) is 0 (length is)) → b ≡ is_in q ps
is_in_by q ps d true h =
    let n : ℕ = length ps in
    let lt : h.0 < n = omega (arith, h.1, length-range_with_len 0 n) in
    let e : get_or (range_with_len 0 n) h.0 0 ≡ h.0 = omega (arith, get_or-range_with_len 0 n h.0 0 lt) in
    let P : ℕ → Type 0 = λ i. i < n → same_put q (get_or ps i d) ≡ true in
    sym (is_in_here q ps h.0 d lt (subst P e (h.2 0) lt))
is_in_by q ps d false h =
    let n : ℕ = length ps in
    let P : ℕ → Type 0 = λ i. i < n → same_put q (get_or ps i d) ≡ false in
    sym (is_in_none q ps d (λ i lt. let e : get_or (range_with_len 0 n) i 0 ≡ i = omega (arith, get_or-range_with_len 0 n i 0 lt) in subst P e (h i 0 (omega arith) (omega (arith, length-range_with_len 0 n))) lt))
