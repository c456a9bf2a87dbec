-- The counts of a clock by their places in the bytes.
use Rattle.std.proofs.Common.{◌≡◌, ℕ, zero, suc, ◌+◌, ◌-◌, ◌*◌, ◌<◌, ◌≤◌, List, [], ◌∷◌, ◌++◌, length, get_or, take, drop, set, replicate, sym, refl, ap, ◌∙◌, ⊎_elim, append_assoc, add-zero, arith, length-drop, get_or-drop}
use Rattle.std.proofs.lemmas.List.{drop-drop, length-take-le, set_at, take_more}
use Rattle.std.proofs.lemmas.Bool.{cases_lt, cases_eq}
use Rattle.wire.specs.Reading.{number_in, clock_in}
use Rattle.wire.proofs.Clocks.{clock_step, clock_short, clock_other}

-- a clock with a count begins with it
first_is : (s : List ℕ) → 0 < length (clock_in s) → clock_in s ≡ number_in (drop 1 s) ∷ clock_in (drop 9 s)
first_is s h =
    ⊎_elim
    (λ short. absurd (omega (arith, ap length (clock_short s short))))
    (λ long. ⊎_elim (λ one. clock_step s long one) (λ other. absurd (omega (arith, ap length (clock_other s other)))) (cases_eq (get_or s 0 0) 1))
    (cases_lt (length s) 9)

pub count_at : (i : ℕ) (s : List ℕ) → i < length (clock_in s) → number_in (drop (9 * i + 1) s) ≡ get_or (clock_in s) i 0
count_at zero s h = sym (ap (λ c. get_or c 0 0) (first_is s h))
count_at (suc i) s h =
    let more = first_is s (omega arith) in
    let place : 9 + (9 * i + 1) ≡ 9 * suc i + 1 = omega arith in
    ap (λ n. number_in (drop n s)) (sym place) ∙ ap number_in (sym (drop-drop (9 * i + 1) 9 s)) ∙ count_at i (drop 9 s) (omega (arith, ap length more)) ∙ sym (ap (λ c. get_or c (suc i) 0) more)

-- one more of them before the zeros
pub filled_more : (c : List ℕ) (i : ℕ) → i < length c → i < 16 → set (take i c ++ replicate (16 - i) 0) i (get_or c i 0) ≡ take (i + 1) c ++ replicate (16 - (i + 1)) 0
filled_more c i h m =
    let left : 16 - i ≡ suc (16 - (i + 1)) = omega arith in
    let zs : List ℕ = replicate (16 - (i + 1)) 0 in
    ap (λ k. set (take i c ++ replicate k 0) i (get_or c i 0)) left
    ∙ set_at (take i c) 0 zs (get_or c i 0) i (length-take-le i c (omega arith))
    ∙ sym (append_assoc (take i c) (get_or c i 0 ∷ []) zs)
    ∙ ap (λ l. l ++ zs) (sym (take_more c i 0 h))

-- the same for the first of those that are left
pub filled_next :
    (c r a : List ℕ) (i j k n : ℕ) → drop i c ≡ n ∷ r → j ≡ i → k ≡ i + 1 → i < 16 → a ≡ take i c ++ replicate (16 - i) 0 →
    (drop k c ≡ r) × (k ≤ length c) × (set a j n ≡ take k c ++ replicate (16 - k) 0)
filled_next c r a i j k n e g h m f =
    let less : i < length c = omega (arith, simp length-drop at (ap length e)) in
    let first : get_or c i 0 ≡ n = ap (λ l. get_or c l 0) (sym (add-zero i)) ∙ sym (get_or-drop i c 0 0) ∙ ap (λ l. get_or l 0 0) e in
    let others : drop (i + 1) c ≡ r = sym (drop-drop 1 i c) ∙ ap (drop 1) e in (
      ap (λ l. drop l c) h ∙ others,
      omega arith,
      (λ u. set (f u) (g u) (sym first u)) ∙ filled_more c i less m ∙ sym (ap (λ l. take l c ++ replicate (16 - l) 0) h),
    )

-- the next count, if there is one
pub clock_next : (s t : List ℕ) → s ≡ 1 ∷ t → 8 ≤ length t → clock_in s ≡ number_in t ∷ clock_in (drop 8 t)
clock_next s t e h = ap clock_in e ∙ clock_step (1 ∷ t) (omega arith) refl
