-- Counts in range, one after the other; and a clock of sixteen counts for one of fewer.
use Rattle.std.proofs.Common.{MatchBool, le-ltb, ◌≡◌, ℕ, zero, suc, ◌-◌, ◌<◌, ◌≤◌, Bool, true, false, ◌&&◌, eqb, ltb, leb, List, [], ◌∷◌, ◌++◌, length, get_or, replicate, sym, refl, ap, ◌∙◌, subst, arith, lt-ltb, eq-eqb, le-leb}
use borrow.Author.Tests.{clash}
use Rattle.std.specs.List.{AllWithin, HoldsAt}
use Rattle.model.specs.Clock.{Clock, good_clock, small}
use Rattle.model.specs.Limits.{Limits, count_bound}
use Rattle.puts.specs.Values.{pad}
use Rattle.puts.proofs.Padded.{pad_is}

all_small : (xs : List ℕ) → AllWithin (λ n. n < count_bound) xs 0 (length xs) → small xs ≡ true
unfolding small
all_small [] h = refl
all_small (x ∷ xs) h = rw (lt-ltb x count_bound (h 0 0 (omega arith) (omega arith))) (all_small xs (λ k d a b. h (suc k) d (omega arith) (omega arith)))

one_large : (xs : List ℕ) (k : ℕ) → k < length xs → count_bound ≤ get_or xs k 0 → small xs ≡ false
unfolding small
one_large [] k h g = absurd (omega arith)
one_large (x ∷ xs) zero h g = rw (le-ltb x count_bound g) refl
one_large (x ∷ xs) (suc k) h g = tail (ltb x count_bound) (one_large xs k (omega arith) g)
  where
    tail : (a : Bool) → small xs ≡ false → (a && small xs) ≡ false
    tail true e = e
    tail false e = refl

-- a test of all, one after the other
pub small_from_all : (xs : List ℕ) (r : Bool) →
    MatchBool r (AllWithin (λ n. n < count_bound) xs 0 (length xs)) ((k : ℕ) × (k < length xs) × HoldsAt (λ n. count_bound ≤ n) xs k) → r ≡ small xs
small_from_all xs true h = sym (all_small xs h)
small_from_all xs false h = sym (one_large xs h.0 h.1 (h.2 0))

-- zeros behind it change nothing
small_zeros : (n : ℕ) → small (replicate n 0) ≡ true
unfolding small
small_zeros zero = refl
small_zeros (suc n) = small_zeros n

pub small_padded : (c : Clock) (n : ℕ) → small (c ++ replicate n 0) ≡ small c
unfolding small
small_padded [] n = small_zeros n
small_padded (x ∷ c) n = ap (λ b. ltb x count_bound && b) (small_padded c n)

-- a clock with another number of counts than there are replicas
pub no_clock : (l : Limits) (c : Clock) (n : ℕ) → l.replicas ≡ n → n ≤ 16 → (leb n 16 && eqb (length c) n) ≡ false → good_clock l c ≡ false
no_clock l c n e h f = subst (λ k. (eqb (length c) k && small c) ≡ false) (sym e) (rest (leb n 16) (eqb (length c) n) (small c) (le-leb n 16 h) f)
  where
    rest : (a b s : Bool) → a ≡ true → (a && b) ≡ false → (b && s) ≡ false
    rest true true s p q = absurd (clash (sym q))
    rest true false s p q = refl
    rest false b s p q = absurd (clash p)

-- one with as many
pub a_clock : (l : Limits) (c : Clock) (n : ℕ) (b : Bool) → l.replicas ≡ n → length c ≡ n → small c ≡ b → good_clock l c ≡ b
a_clock l c n b e h s = ap (λ x. x && small c) (eq-eqb (length c) l.replicas (h ∙ sym e)) ∙ s

pub sixteen : (c : Clock) (n : ℕ) → n ≤ 16 → length c ≡ n → c ++ replicate (16 - n) 0 ≡ pad 16 c
sixteen c n h e = sym (pad_is 16 c (omega arith) ∙ ap (λ k. c ++ replicate (16 - k) 0) e)
