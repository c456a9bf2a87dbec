-- Told clocks, and the puts of a reply one by one.
use Rattle.std.proofs.lemmas.List.FromFn.{fill_by_all}
use Rattle.std.specs.List.{range_with_len}
use Rattle.std.specs.Array.{IsFromFnResultFrom}
use Rattle.std.specs.Fn.{Called}
use denote.Param.Members.{Mut}
use Rattle.std.proofs.Common.{map, get_or, ◌+◌, ◌⊎◌, ◌≡◌, ℕ, zero, suc, ◌<◌, ◌≤◌, List, [], ◌∷◌, length, take, drop, Some, None, Option, sym, refl, ap, ◌∙◌, subst, inl, inr, arith}
use Rattle.model.specs.Lists.{In}
use Rattle.model.specs.Limits.{Limits, reply_most}
use Rattle.model.specs.Clock.{Clock}
use Rattle.model.specs.Put.{Put, Body}
use Rattle.model.specs.Delivery.{reply}
use Rattle.model.specs.Replica.{Replica}
use Rattle.model.proofs.Steps.{in_reply}
use Rattle.puts.specs.Values.{code_put}
use Rattle.puts.specs.Words.{code_slot}
use Rattle.puts.specs.Values.{Put as CodePut}
use Rattle.memory.specs.Valid.{AllSound, Sound, Valid}
use Rattle.logs.specs.State.{nth_of}
use Rattle.replica.specs.Answered.{some_puts}
use Rattle.calls.proofs.Acts.{back}

-- THE PUTS OF A REPLY, with none behind their end
unfoldable heads : ℕ → List (Put Body) → List (Option CodePut)
heads zero qs = []
heads (suc k) [] = None ∷ heads k []
heads (suc k) (q ∷ qs) = Some (code_put q) ∷ heads k qs

head_more : (k i : ℕ) (qs : List (Put Body)) → code_slot (nth_of qs i) ∷ heads k (drop (suc i) qs) ≡ heads (suc k) (drop i qs)
unfolding heads code_slot
head_more k zero [] = refl
head_more k zero (q ∷ qs) = refl
head_more k (suc i) [] = refl
head_more k (suc i) (q ∷ qs) = head_more k i qs

no_heads : (n k : ℕ) → some_puts n (heads k []) ≡ []
unfolding heads
no_heads n zero = refl
no_heads n (suc k) = no_heads n k

all_heads : (l : Limits) (k : ℕ) (qs : List (Put Body)) → length qs ≤ k → ((q : Put Body) → In q qs → Sound l q) → some_puts l.replicas (heads k qs) ≡ qs
unfolding heads
all_heads l zero [] h s = refl
all_heads l zero (q ∷ qs) h s = absurd (omega arith)
all_heads l (suc k) [] h s = no_heads l.replicas k
all_heads l (suc k) (q ∷ qs) h s = λ i. back l q (s q (inl refl)) i ∷ all_heads l k qs (omega arith) (λ p j. s p (inr j)) i

in_sound : (l : Limits) (ps : List (Put Body)) (p : Put Body) → AllSound l ps → In p ps → Sound l p
in_sound l [] p s i = absurd i
in_sound l (q ∷ ps) p s (inl e) = subst (Sound l) (sym e) (s 0 q (omega arith))
in_sound l (q ∷ ps) p s (inr i) = in_sound l ps p (λ k d b. s (suc k) d (omega arith)) i

short : (n : ℕ) (qs : List (Put Body)) → length (take n qs) ≤ n
short zero qs = omega arith
short (suc n) [] = omega arith
short (suc n) (q ∷ qs) = let h = short n qs in omega arith

one_more : (a : ℕ) → a + 1 ≡ suc a
one_more a = omega arith

-- read one by one, from place a on
read_from : (n a : ℕ) (qs : List (Put Body)) → map (λ i. code_slot (nth_of qs i)) (range_with_len a n) ≡ heads n (drop a qs)
unfolding heads
read_from zero a qs = refl
read_from (suc n) a qs = ap (λ t. code_slot (nth_of qs a) ∷ t) (read_from n (a + 1) qs ∙ ap (λ k. heads n (drop k qs)) (one_more a)) ∙ head_more n a qs

pub eight : (l : Limits) (r : Replica) (c : Clock) (xs : List (Option CodePut)) → Valid l r → length xs ≡ 8 →
    ((i : ℕ) → i < 8 → get_or xs i None ≡ code_slot (nth_of (reply c r.delivery) i)) → some_puts l.replicas xs ≡ reply c r.delivery
eight l r c xs v long each =
    ap (some_puts l.replicas) (fill_by_all (λ i. code_slot (nth_of (reply c r.delivery) i)) xs 8 None long each ∙ read_from 8 0 (reply c r.delivery))
    ∙ all_heads l 8 (reply c r.delivery) (short reply_most _) (λ q i. in_sound l r.delivery.log q v.fits.delivery.logs (in_reply c r.delivery q i))

here : (i k : ℕ) → i ≤ k → (i ≡ k) ⊎ (i < k)
here zero zero h = inl refl
here zero (suc k) h = inr (omega arith)
here (suc i) zero h = absurd (omega arith)
here (suc i) (suc k) h = elim (here i k (omega arith)) [ inl e ↦ inl (ap suc e) | inr e ↦ inr (omega (arith, e)) ]

-- CALLS of a closure that stays as it was
module _ {F B : Type 0} (g : Mut F (ℕ × Unit {0}) B) (f : F) (P : ℕ → B → Type 0) (one : (i : ℕ) (y : B) (q : F) → Called g f (i, tt) y q → (q ≡ f) × P i y) where
  pub each_call : (ys : List B) (i n : ℕ) → IsFromFnResultFrom g f ys i n → (k : ℕ) (d : B) → i ≤ k → k < i + n → P k (get_or ys k d)
  each_call ys i zero h k d a b = absurd (omega arith)
  each_call ys i (suc n) h k d a b =
      let now = one i h.1 h.0 h.3 in
      elim (here i k a) [
        | inl e ↦ subst (λ j. P j (get_or ys j d)) e (subst (P i) (sym (h.2.1 d)) now.1)
        | inr e ↦ each_call ys (i + 1) n (subst (λ x. IsFromFnResultFrom g x ys (i + 1) n) now.0 h.4) k d (omega (arith, e)) (omega arith)
      ]
