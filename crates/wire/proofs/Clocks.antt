-- The numbers of a clock in bytes, one after the other.
use Rattle.std.proofs.Common.{◌≡◌, ℕ, zero, suc, ◌+◌, ◌*◌, ◌<◌, ◌≤◌, Bool, true, false, cond, ◌&&◌, eqb, ltb, leb, List, [], ◌∷◌, ◌++◌, length, get_or, drop, sym, refl, ap, ◌∙◌, add-zero, arith, length-drop, get_or-drop}
use Rattle.std.proofs.lemmas.List.{drop-drop}
use Rattle.std.proofs.lemmas.Bool.{leb-true, cond_both, le-leb, eq-eqb, lt-leb, lt-ltb, ne_eqb, ltb-true, and_parts}
use Rattle.model.specs.Clock.{Clock}
use Rattle.model.specs.Program.{word_bound, all_below}
use Rattle.wire.specs.Bytes.{write_number, write_counts}
use Rattle.wire.proofs.Numbers.{number_back}
use Rattle.std.proofs.lemmas.Bool.Decides.{nat_tests}
use Rattle.wire.specs.Reading.{Part, whole, ceases, then, number_in, counts_in, clock_in, span, clock_size}

pub fuel : (f g : ℕ) (s : List ℕ) → length s ≤ f → length s ≤ g → counts_in f s ≡ counts_in g s
unfolding counts_in
fuel zero zero s a b = refl
fuel zero (suc g) [] a b = refl
fuel zero (suc g) (x ∷ s) a b = absurd (omega arith)
fuel (suc f) zero [] a b = refl
fuel (suc f) zero (x ∷ s) a b = absurd (omega arith)
fuel (suc f) (suc g) s a b =
    let rest = fuel f g (drop 9 s) (simp length-drop (omega arith)) (simp length-drop (omega arith)) in
    elim (leb 9 (length s) && eqb (get_or s 0 0) 1) as (λ t. cond t (number_in (drop 1 s) ∷ counts_in f (drop 9 s)) [] ≡ cond t (number_in (drop 1 s) ∷ counts_in g (drop 9 s)) []) [
      | true ↦ ap (λ l. number_in (drop 1 s) ∷ l) rest
      | false ↦ refl
    ]

pub clock_step : (s : List ℕ) → 9 ≤ length s → get_or s 0 0 ≡ 1 → clock_in s ≡ number_in (drop 1 s) ∷ clock_in (drop 9 s)
unfolding clock_in counts_in
clock_step [] a e = absurd (omega arith)
clock_step (x ∷ s) a e =
    let p : leb 9 (length (x ∷ s)) ≡ true = le-leb 9 (length (x ∷ s)) a in
    let q : eqb x 1 ≡ true = eq-eqb x 1 e in
    rw (p, q) (ap (λ l. number_in s ∷ l) (fuel (length s) (length (drop 8 s)) (drop 8 s) (simp length-drop (omega arith)) (simp length-drop (omega arith))))

pub clock_short : (s : List ℕ) → length s < 9 → clock_in s ≡ []
unfolding clock_in counts_in
clock_short [] a = refl
clock_short (x ∷ s) a =
    let p : leb 9 (length (x ∷ s)) ≡ false = lt-leb 9 (length (x ∷ s)) a in
    rw p

pub clock_other : (s : List ℕ) → (get_or s 0 0 ≡ 1 → ⊥) → clock_in s ≡ []
unfolding clock_in counts_in
clock_other [] a = refl
clock_other (x ∷ s) a =
    let q : eqb x 1 ≡ false = ne_eqb x 1 a in
    elim (leb 9 (length (x ∷ s))) as (λ t. cond (t && eqb x 1) (number_in s ∷ counts_in (length s) (drop 8 s)) [] ≡ []) [ true ↦ rw q | false ↦ refl ]

within_fuel : (f : ℕ) (s : List ℕ) → 9 * length (counts_in f s) ≤ length s
unfolding counts_in
within_fuel zero s = omega arith
within_fuel (suc f) s =
    let rest = within_fuel f (drop 9 s) in
    cond_both (leb 9 (length s) && eqb (get_or s 0 0) 1) (number_in (drop 1 s) ∷ counts_in f (drop 9 s)) [] (λ c. 9 * length c ≤ length s)
    (λ h.
    let long : 9 ≤ length s = leb-true 9 (length s) (and_parts (leb 9 (length s)) (eqb (get_or s 0 0) 1) h).0 in
    let less = simp length-drop at rest in
    omega arith)
    (λ _. omega arith)

-- each count takes nine bytes
pub clock_within : (s : List ℕ) → 9 * length (clock_in s) ≤ length s
unfolding clock_in
clock_within s = within_fuel (length s) s

module _ (s : List ℕ) (at : ℕ) where
  first : get_or (drop at s) 0 0 ≡ get_or s at 0
  first = get_or-drop at s 0 0 ∙ ap (λ i. get_or s i 0) (add-zero at)

  pub span_step : at + 9 ≤ length s → get_or s at 0 ≡ 1 → span (drop at s) ≡ 9 + span (drop (at + 9) s)
  unfolding span
  span_step a e =
      let one = clock_step (drop at s) (simp length-drop (omega arith)) (first ∙ e) in
      let back : clock_in (drop 9 (drop at s)) ≡ clock_in (drop (at + 9) s) = ap clock_in (drop-drop 9 at s) in
      let k : length (clock_in (drop at s)) ≡ suc (length (clock_in (drop (at + 9) s))) = ap length one ∙ ap (λ l. suc (length l)) back in
      omega arith

  pub span_short : length s < at + 9 → span (drop at s) ≡ 0
  unfolding span
  span_short a = ap (λ l. 9 * length l) (clock_short (drop at s) (simp length-drop (omega arith)))

  pub span_other : (get_or s at 0 ≡ 1 → ⊥) → span (drop at s) ≡ 0
  unfolding span
  span_other a = ap (λ l. 9 * length l) (clock_other (drop at s) (λ e. a (sym first ∙ e)))

-- how many bytes a clock takes, by the place of its end, the marker there, and the length of the bytes
abbrev sized : ℕ → ℕ → ℕ → Part ℕ
sized a m l = cond (ltb a l) (cond (eqb m 0) (whole (a + 1)) (cond (eqb m 1) (ceases l) (ceases a))) (ceases l)

shift : (b p q : Bool) (a l : ℕ) → cond b (cond p (whole (9 + a + 1)) (cond q (ceases (9 + l)) (ceases (9 + a)))) (ceases (9 + l)) ≡ then 9 (cond b (cond p (whole (a + 1)) (cond q (ceases l) (ceases a))) (ceases l)) (λ k. whole (9 + k))
shift true true q a l = ap whole (omega arith)
shift true false true a l = refl
shift true false false a l = refl
shift false p q a l = refl

sized_shift : (a m l : ℕ) → sized (9 + a) m (9 + l) ≡ then 9 (sized a m l) (λ k. whole (9 + k))
sized_shift a m l =
    let same : ltb (9 + a) (9 + l) ≡ ltb a l = grind (arith, nat_tests) in
    rw same (shift (ltb a l) (eqb m 0) (eqb m 1) a l)

-- a count more
pub size_step : (s : List ℕ) → 9 ≤ length s → get_or s 0 0 ≡ 1 → clock_size s ≡ then 9 (clock_size (drop 9 s)) (λ k. whole (9 + k))
unfolding clock_size
size_step s h e =
    let t : List ℕ = drop 9 s in
    let one : span s ≡ 9 + span t = span_step s 0 h e in
    let mark : get_or s (span s) 0 ≡ get_or t (span t) 0 = ap (λ n. get_or s n 0) one ∙ sym (get_or-drop 9 s (span t) 0) in
    let long : length s ≡ 9 + length t = simp length-drop (omega arith) in
    (λ i. sized (one i) (mark i) (long i)) ∙ sized_shift (span t) (get_or t (span t) 0) (length t)

-- fewer bytes than a count takes
pub size_short : (x : ℕ) (s : List ℕ) → x ≡ 1 → length (x ∷ s) < 9 → clock_size (x ∷ s) ≡ ceases (length (x ∷ s))
unfolding clock_size
size_short x s e h =
    let none : span (x ∷ s) ≡ 0 = span_short (x ∷ s) 0 h in
    let some : ltb 0 (length (x ∷ s)) ≡ true = lt-ltb _ _ (omega arith) in
    rw (none, some, e)

-- a 0 ends it, and another marker but a 1 is none
pub size_end : (s : List ℕ) → clock_size (0 ∷ s) ≡ whole 1
unfolding clock_size
size_end s =
    let none : span (0 ∷ s) ≡ 0 = span_other (0 ∷ s) 0 (λ z. omega arith) in
    let some : ltb 0 (length (0 ∷ s)) ≡ true = lt-ltb _ _ (omega arith) in
    rw (none, some)

pub size_bad : (x : ℕ) (s : List ℕ) → 1 < x → clock_size (x ∷ s) ≡ ceases 0
unfolding clock_size
size_bad x s h =
    let none : span (x ∷ s) ≡ 0 = span_other (x ∷ s) 0 (λ z. omega arith) in
    let some : ltb 0 (length (x ∷ s)) ≡ true = lt-ltb _ _ (omega arith) in
    rw (none, some, ne_eqb x 0 (λ z. omega arith), ne_eqb x 1 (λ z. omega arith))

-- WHAT WAS WRITTEN: counts, and then another marker than a 1
pub clock_back : (c : Clock) (x : ℕ) (s : List ℕ) → all_below word_bound c ≡ true → (x ≡ 1 → ⊥) → clock_in (write_counts c ++ (x ∷ s)) ≡ c
unfolding write_counts all_below
clock_back [] x s e h = clock_other (x ∷ s) h
clock_back (n ∷ ns) x s e h =
    let both = and_parts (ltb n word_bound) (all_below word_bound ns) e in
    let t : List ℕ = write_counts ns ++ (x ∷ s) in
    clock_step (1 ∷ (write_number n ++ t)) (omega arith) refl ∙ (λ i. number_back n t (ltb-true n word_bound both.0) i ∷ clock_back ns x s both.1 h i)

then_none : (p : Part ℕ) → p ≡ then 0 p (λ k. whole (0 + k))
then_none (whole k) = ap whole (omega arith)
then_none (ceases k) = ap ceases (omega arith)

then_more : (n : ℕ) (p : Part ℕ) → then 9 (then (9 * n) p (λ k. whole (9 * n + k))) (λ k. whole (9 + k)) ≡ then (9 * suc n) p (λ k. whole (9 * suc n + k))
then_more n (whole k) = ap whole (omega arith)
then_more n (ceases k) = ap ceases (omega arith)

-- what follows counts
pub size_counts : (c : Clock) (s : List ℕ) → clock_size (write_counts c ++ s) ≡ then (9 * length c) (clock_size s) (λ k. whole (9 * length c + k))
unfolding write_counts
size_counts [] s = then_none (clock_size s)
size_counts (n ∷ ns) s =
    let t : List ℕ = write_counts ns ++ s in
    size_step (1 ∷ (write_number n ++ t)) (omega arith) refl ∙ ap (λ p. then 9 p (λ k. whole (9 + k))) (size_counts ns s) ∙ then_more (length ns) (clock_size s)

pub size_none : clock_size [] ≡ ceases 0
unfolding clock_size span clock_in counts_in
size_none = refl
