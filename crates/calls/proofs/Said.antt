-- What an answer of the code says.
use Rattle.std.proofs.Common.{◌≡◌, ℕ, zero, suc, ◌<◌, ◌≤◌, Ok, Err, subst, ◌⊎◌, inl, inr, true, cond, [], ◌∷◌, length, sym, refl, ap, ◌∙◌, arith, ne_eqb}
use Rattle.model.specs.Limits.{Limits}
use Rattle.model.specs.Delivery.{reply, stamped}
use Rattle.model.specs.Store.{shown}
use Rattle.model.specs.Program.{readable}
use Rattle.model.specs.Replica.{Replica, Event, put, get, came, has, tell, garbled, refused, puts, value, clock_is, first_failing, in_range, legible, place, refusal, says, after, answer}
use Rattle.model.proofs.Replica.{Passed, answer_accepted, passed, refusal_changes_nothing}
use Rattle.model.specs.Clock.{Clock}
use Rattle.puts.specs.Values.{clock_size, code_clock}
use Rattle.puts.specs.declared.Clock.{Clock as CodeClock}
use Rattle.calls.specs.declared.Answer.TheVariants.{Reply}
use Rattle.puts.specs.Words.{Slot, code_slot}
use Rattle.puts.proofs.Padded.{take_pad}
use Rattle.memory.specs.Valid.{SoundSlot, Valid}
use Rattle.delivery.proofs.Takes.{room_of, stamped_sound}
use Rattle.calls.specs.Answered.{AnswerSaid, code_answer, code_says, none_or_one, number_of, place_of, reason, says_in}
use Rattle.calls.proofs.Acts.{back, code_accepted, code_refused, refusal_few, was_accepted, was_refused}
use Rattle.calls.proofs.Cases.{body_bytes, get_good, put_good}
use Rattle.calls.specs.declared.Reason.{Reason}
use Rattle.calls.proofs.Told.{told_long}

value_said : (l : Limits) (s : Slot) → SoundSlot l s → value (none_or_one l.replicas (code_slot s)) ≡ value s
unfolding code_slot SoundSlot
value_said l [] h = refl
value_said l (q ∷ qs) h = λ i. value (back l q h.0 i ∷ sym h.1 i)

-- THE NUMBERS of the reasons, one for each refusal; the place stands where the bytes are no event
numbered : (n p : ℕ) → n ≤ 5 → 0 < n → (p ≡ 0) ⊎ (n ≡ 1) → refused (number_of (reason n p)) (place_of (reason n p)) ≡ refused n p
numbered zero p h k o = absurd (omega arith)
numbered (suc zero) p h k o = refl
numbered (suc (suc zero)) p h k (inl o) = ap (refused 2) (sym o)
numbered (suc (suc (suc zero))) p h k (inl o) = ap (refused 3) (sym o)
numbered (suc (suc (suc (suc zero)))) p h k (inl o) = ap (refused 4) (sym o)
numbered (suc (suc (suc (suc (suc zero))))) p h k (inl o) = ap (refused 5) (sym o)
numbered (suc (suc (suc (suc (suc (suc n)))))) p h k o = absurd (omega arith)
numbered (suc (suc n)) p h k (inr o) = absurd (omega arith)

placed : (l : Limits) (r : Replica) (e : Event) → (place e ≡ 0) ⊎ (refusal l r e ≡ 1)
unfolding place legible first_failing
placed l r (put b) = inl refl
placed l r (get k) = inl refl
placed l r (came q) = inl refl
placed l r (has j c) = inl refl
placed l r tell = inl refl
placed l r (garbled n) = inr refl

module _ (l : Limits) (r : Replica) (v : Valid l r) where
  accepted_said : (e : Event) → Passed l r.delivery e → readable e ≡ true → in_range l e ≡ true → says_in l.replicas r.delivery (Ok (code_says r e)) ≡ says r e
  unfolding says readable
  accepted_said (put b) p h g =
      ap (λ x. puts (x ∷ [])) (back l (stamped b r.delivery) (stamped_sound l r b v.fits (body_bytes b h) (put_good l b g) (room_of l r b p.has_log_room).1))
  accepted_said (get k) p h g =
      let here : k < l.keys = get_good l k g in
      value_said l (shown r.store k) (v.fits.store.stands k (omega (arith, v.fits.store.keys)))
  accepted_said (came q) p h g = refl
  accepted_said (has j c) p h g = ap (λ x. puts (reply x r.delivery)) (take_pad clock_size l.replicas c (told_long l j c g).1 v.fits.delivery.replicas)
  accepted_said tell p h g = ap clock_is (take_pad clock_size l.replicas r.delivery.clock v.fits.delivery.clock v.fits.delivery.replicas)
  accepted_said (garbled n) p h g = refl

-- a reason of the code has the number and the place of the refusal
refused_as : (l : Limits) (r : Replica) (e : Event) (n : ℕ) → refusal l r e ≡ suc n → refused (number_of (reason (suc n) (place e))) (place_of (reason (suc n) (place e))) ≡ answer l r e
refused_as l r e n z =
    numbered (suc n) (place e) (subst (λ k. k ≤ 5) z (refusal_few l r e)) (omega arith) (elim (placed l r e) [ inl o ↦ inl o | inr o ↦ inr (sym z ∙ o) ])
    ∙ sym (ap (λ b. cond b (says r e) (refused (refusal l r e) (place e))) (ne_eqb (refusal l r e) 0 (λ y. omega (arith, y, z))) ∙ ap (λ k. refused k (place e)) z)

pub refused_said : (l : Limits) (r : Replica) (e : Event) (w : Reason) → Err w ≡ code_answer l r e → (refused (number_of w) (place_of w) ≡ answer l r e) × (after l r e ≡ r)
refused_said l r e w s =
    let t = was_refused l r e w s in
    (ap (λ x. refused (number_of x) (place_of x)) t.2 ∙ refused_as l r e t.0 t.1, refusal_changes_nothing l r e (omega (arith, t.1)))

pub answer_said : AnswerSaid
answer_said l r e v rd g = go (refusal l r e) refl
  where
    go : (n : ℕ) → refusal l r e ≡ n → says_in l.replicas r.delivery (code_answer l r e) ≡ answer l r e
    go zero z = ap (says_in l.replicas r.delivery) (code_accepted l r e z) ∙ accepted_said l r v e (passed l r e z) rd g ∙ sym (answer_accepted l r e z)
    go (suc n) z = ap (says_in l.replicas r.delivery) (code_refused l r e n z) ∙ refused_as l r e n z

-- a reply is one to a clock that was told
never : {A : Type 0} → ◌≡◌ {A = ℕ} 0 1 → A
never z = absurd (omega arith)

pub replied_to : (l : Limits) (r : Replica) (e : Event) (k : CodeClock) → Ok (Reply k) ≡ code_answer l r e → in_range l e ≡ true →
    (c : Clock) × (length c ≡ l.replicas) × (k ≡ code_clock c) × (puts (reply c r.delivery) ≡ answer l r e)
unfolding says
replied_to l r e k a g = let y = was_accepted l r e (Reply k) a in by e y.1 y.0 g
  where
    by : (e : Event) → Reply k ≡ code_says r e → refusal l r e ≡ 0 → in_range l e ≡ true → (c : Clock) × (length c ≡ l.replicas) × (k ≡ code_clock c) × (puts (reply c r.delivery) ≡ answer l r e)
    by (put x) t z g = never cc
    by (get j) t z g = never cc
    by (came q) t z g = never cc
    by (has j c) t z g = (c, (told_long l j c g).1, cc, sym (answer_accepted l r (has j c) z))
    by tell t z g = never cc
    by (garbled n) t z g = never cc
