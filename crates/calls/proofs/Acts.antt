-- What an event is answered, by the checks that it passes.
use Rattle.std.proofs.Common.{◌≡◌, ◌≤◌, ℕ, zero, suc, Ok, Err, Bool, true, false, cond, ◌&&◌, refl, ap, ◌∙◌, arith, eq-eqb, ne_eqb}
use Rattle.model.specs.Limits.{Limits}
use Rattle.model.specs.Put.{Put, Body}
use Rattle.model.specs.Replica.{Replica, Event, legible, in_range, possible, log_room, queue_room, event_number, first_failing, place, refusal}
use Rattle.model.proofs.Replica.{pass}
use Rattle.puts.specs.Values.{code_put}
use Rattle.puts.proofs.Padded.{put_back}
use Rattle.memory.specs.Valid.{Sound}
use Rattle.calls.specs.Answered.{AllSupported, Answer, code_answer, code_says, one_put, reason}
use Rattle.calls.specs.declared.Reason.{Reason}

-- an event whose bytes were read and whose numbers are in range
pub record Right (l : Limits) (e : Event) : Type 0 where
  pub read : legible e ≡ true
  pub valid : (l.supports (event_number e) && in_range l e) ≡ true
  pub whole : place e ≡ 0

-- five checks, one behind the other
unfoldable chain : Bool → Bool → Bool → Bool → Bool → ℕ
chain a b c d e = cond a (cond b (cond c (cond d (cond e 0 5) 4) 3) 2) 1

second : (a b c d e : Bool) → a ≡ true → b ≡ false → chain a b c d e ≡ 2
unfolding chain
second a b c d e p q = rw (p, q)

third : (a b c d e : Bool) → a ≡ true → b ≡ true → c ≡ false → chain a b c d e ≡ 3
unfolding chain
third a b c d e p q r = rw (p, q, r)

fourth : (a b c d e : Bool) → a ≡ true → b ≡ true → c ≡ true → d ≡ false → chain a b c d e ≡ 4
unfolding chain
fourth a b c d e p q r s = rw (p, q, r, s)

fifth : (a b c d e : Bool) → a ≡ true → b ≡ true → c ≡ true → d ≡ true → e ≡ false → chain a b c d e ≡ 5
unfolding chain
fifth a b c d e p q r s t = rw (p, q, r, s, t)

-- there are five refusals
few : (a b c d e : Bool) → chain a b c d e ≤ 5
unfolding chain
few true true true true true = omega arith
few true true true true false = omega arith
few true true true false e = omega arith
few true true false d e = omega arith
few true false c d e = omega arith
few false b c d e = omega arith

pub refusal_few : (l : Limits) (r : Replica) (e : Event) → refusal l r e ≤ 5
unfolding first_failing chain
refusal_few l r e = few (legible e) (l.supports (event_number e) && in_range l e) (possible r.delivery e) (log_room l r.delivery e) (queue_room l r.delivery e)

module _ (l : Limits) (r : Replica) (e : Event) (right : Right l e) where
  -- no check fails
  pub accepts : possible r.delivery e ≡ true → log_room l r.delivery e ≡ true → queue_room l r.delivery e ≡ true → refusal l r e ≡ 0
  accepts p g q = pass l r e (record { is_legible = right.read; is_valid = right.valid; is_possible = p; has_log_room = g; has_queue_room = q })

  -- or one
  pub refuses_3 : possible r.delivery e ≡ false → refusal l r e ≡ 3
  unfolding first_failing chain
  refuses_3 p = third (legible e) (l.supports (event_number e) && in_range l e) (possible r.delivery e) (log_room l r.delivery e) (queue_room l r.delivery e) right.read right.valid p

  pub refuses_4 : possible r.delivery e ≡ true → log_room l r.delivery e ≡ false → refusal l r e ≡ 4
  unfolding first_failing chain
  refuses_4 p g = fourth (legible e) (l.supports (event_number e) && in_range l e) (possible r.delivery e) (log_room l r.delivery e) (queue_room l r.delivery e) right.read right.valid p g

  pub refuses_5 : possible r.delivery e ≡ true → log_room l r.delivery e ≡ true → queue_room l r.delivery e ≡ false → refusal l r e ≡ 5
  unfolding first_failing chain
  refuses_5 p g q = fifth (legible e) (l.supports (event_number e) && in_range l e) (possible r.delivery e) (log_room l r.delivery e) (queue_room l r.delivery e) right.read right.valid p g q

-- what the code answers then
pub code_accepted : (l : Limits) (r : Replica) (e : Event) → refusal l r e ≡ 0 → code_answer l r e ≡ Ok (code_says r e)
code_accepted l r e z = ap (λ b. cond b (Ok (code_says r e)) (Err (reason (refusal l r e) (place e)))) (eq-eqb (refusal l r e) 0 z)

pub code_refused : (l : Limits) (r : Replica) (e : Event) (n : ℕ) → refusal l r e ≡ suc n → code_answer l r e ≡ Err (reason (suc n) (place e))
code_refused l r e n z =
    ap (λ b. cond b (Ok (code_says r e)) (Err (reason (refusal l r e) (place e)))) (ne_eqb (refusal l r e) 0 (λ y. omega (arith, y, z)))
    ∙ ap (λ k. Err (reason k (place e))) z

-- an answer of the code is that of an event that no check refuses
pub was_accepted : (l : Limits) (r : Replica) (e : Event) (a : Answer) → Ok a ≡ code_answer l r e → (refusal l r e ≡ 0) × (a ≡ code_says r e)
was_accepted l r e a s = go (refusal l r e) refl
  where
    go : (n : ℕ) → refusal l r e ≡ n → (refusal l r e ≡ 0) × (a ≡ code_says r e)
    go zero z = let t : Ok a ≡ Ok (code_says r e) = s ∙ code_accepted l r e z in (z, grind (arith, t))
    go (suc n) z = let t : Ok a ≡ Err (reason (suc n) (place e)) = s ∙ code_refused l r e n z in absurd (grind (arith, t))

-- a reason of the code is that of a refusal, which changes nothing
pub was_refused : (l : Limits) (r : Replica) (e : Event) (w : Reason) → Err w ≡ code_answer l r e → (n : ℕ) × (refusal l r e ≡ suc n) × (w ≡ reason (suc n) (place e))
was_refused l r e w s = go (refusal l r e) refl
  where
    go : (n : ℕ) → refusal l r e ≡ n → (n : ℕ) × (refusal l r e ≡ suc n) × (w ≡ reason (suc n) (place e))
    go zero z = let t : Err w ≡ Ok (code_says r e) = s ∙ code_accepted l r e z in absurd (grind (arith, t))
    go (suc n) z = let t : Err w ≡ Err (reason (suc n) (place e)) = s ∙ code_refused l r e n z in (n, z, grind (arith, t))

-- refused by 2
pub out_of_range_is_2 : (l : Limits) (r : Replica) (e : Event) → legible e ≡ true → (l.supports (event_number e) && in_range l e) ≡ false → refusal l r e ≡ 2
unfolding first_failing chain
out_of_range_is_2 l r e g f = second (legible e) (l.supports (event_number e) && in_range l e) (possible r.delivery e) (log_room l r.delivery e) (queue_room l r.delivery e) g f

-- a put of the code, back
pub back : (l : Limits) (q : Put Body) → Sound l q → one_put l.replicas (code_put q) ≡ q
back l q s = put_back l.replicas q s.seen s.fit

-- each event that is in range
pub right_event : (l : Limits) (e : Event) → AllSupported l → legible e ≡ true → in_range l e ≡ true → place e ≡ 0 → Right l e
right_event l e all h g p = record { read = h; valid = ap (λ b. b && in_range l e) (all (event_number e)) ∙ g; whole = p }
