-- A reply, put by put.
use Rattle.std.proofs.Common.{◌≡◌, Ok, true, ℕ, zero, suc, ◌+◌, ◌≤◌, List, [], ◌∷◌, ◌++◌, reverse, take, Some, None, Option, sym, refl, ap, ◌∙◌, inl, inr, arith}
use Rattle.std.specs.List.{flat_map}
use Rattle.std.proofs.lemmas.List.{length-take, take_all, flat_map_more}
use Rattle.model.specs.Limits.{Limits, reply_most}
use Rattle.model.specs.Clock.{Clock}
use Rattle.model.specs.Delivery.{Delivery, lacking, reply}
use Rattle.model.specs.Program.{readable}
use Rattle.model.specs.Replica.{Replica, Event, in_range, answer}
use Rattle.model.proofs.Steps.{in_reply}
use Rattle.model.specs.Put.{Put, Body}
use Rattle.puts.specs.Values.{Put as CodePut}
use Rattle.puts.specs.Values.{code_put}
use Rattle.puts.specs.Words.{code_slot}
use Rattle.memory.specs.Valid.{Sound, Valid}
use Rattle.logs.proofs.Logs.{in_at}
use Rattle.model.specs.Lists.{In}
use Rattle.logs.specs.State.{nth_of}
use Rattle.wire.specs.Bytes.{write_answer, write_item}
use Rattle.calls.specs.Answered.{Answer, code_answer, one_put, says_in}
use Rattle.calls.proofs.Said.{answer_said}
use Rattle.memory.specs.Valid.{Valid}
use Rattle.model.specs.Program.{readable}
use Rattle.model.specs.Replica.{Replica, Event, in_range, answer}
use Rattle.wire.specs.Bytes.{write_answer}
use Rattle.calls.proofs.Acts.{back}

-- the bytes of the first i of some
abbrev pub items : ℕ → List (Put Body) → List ℕ
items i qs = flat_map write_item (take i qs)

-- past the end
pub no_next : (qs : List (Put Body)) (i : ℕ) → ◌≡◌ {A = Option CodePut} None (code_slot (nth_of qs i)) → take i qs ≡ qs
unfolding code_slot
no_next [] i e = take_all i [] (omega arith)
no_next (q ∷ qs) zero e = let z : ◌≡◌ {A = ℕ} 0 1 = cc in absurd (omega arith)
no_next (q ∷ qs) (suc i) e = ap (λ t. q ∷ t) (no_next qs i e)

-- one more
take_next : (l : Limits) (qs : List (Put Body)) (i : ℕ) (p : CodePut) → ((q : Put Body) → In q qs → Sound l q) → Some p ≡ code_slot (nth_of qs i) → take (suc i) qs ≡ take i qs ++ (one_put l.replicas p ∷ [])
unfolding code_slot
take_next l [] zero p s e = let z : ◌≡◌ {A = ℕ} 0 1 = cc in absurd (omega arith)
take_next l [] (suc i) p s e = let z : ◌≡◌ {A = ℕ} 0 1 = cc in absurd (omega arith)
take_next l (q ∷ qs) zero p s e = let same : p ≡ code_put q = cc in ap (λ x. x ∷ []) (sym (ap (one_put l.replicas) same ∙ back l q (s q (inl refl))))
take_next l (q ∷ qs) (suc i) p s e = ap (λ t. q ∷ t) (take_next l qs i p (λ x j. s x (inr j)) e)

pub next_item : (l : Limits) (qs : List (Put Body)) (i : ℕ) (p : CodePut) → ((q : Put Body) → In q qs → Sound l q) → Some p ≡ code_slot (nth_of qs i) → items (i + 1) qs ≡ items i qs ++ write_item (one_put l.replicas p)
next_item l qs i p s e =
    let more : i + 1 ≡ suc i = omega arith in
    ap (λ k. items k qs) more ∙ ap (flat_map write_item) (take_next l qs i p s e) ∙ sym (flat_map_more write_item [] (take i qs) (one_put l.replicas p))

-- the puts of a reply are sound
pub reply_sound : (l : Limits) (r : Replica) (c : Clock) → Valid l r → (q : Put Body) → In q (reply c r.delivery) → Sound l q
reply_sound l r c v q i = in_at (Sound l) r.delivery.log q v.fits.delivery.logs (in_reply c r.delivery q i)

-- and no more than eight
pub reply_whole : (c : Clock) (d : Delivery Body) (i : ℕ) → reply_most ≤ i → take i (reply c d) ≡ reply c d
reply_whole c d i h = take_all i (reply c d) (let k = length-take reply_most (lacking c (reverse d.log)) in omega (arith, k))

-- WHAT AN ANSWER MEANS: the bytes of what the code's answer says are those of the model's
pub means : (l : Limits) (r : Replica) (e : Event) (n : ℕ) → Valid l r → n ≡ l.replicas → readable e ≡ true → in_range l e ≡ true → (a : Answer) → Ok a ≡ code_answer l r e →
    (b : List ℕ) → b ≡ write_answer (says_in n r.delivery (Ok a)) → b ≡ write_answer (answer l r e)
means l r e n v f rd g a s b w = w ∙ ap write_answer ((λ i. says_in (f i) r.delivery (s i)) ∙ answer_said l r e v rd g)
