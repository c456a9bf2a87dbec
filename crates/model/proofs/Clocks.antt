-- Laws of clocks, count by count.
use Rattle.std.proofs.Common.{◌≡◌, ℕ, zero, suc, ◌+◌, ◌*◌, ◌<◌, ◌≤◌, true, false, leb, ◌≢◌, [], ◌∷◌, length, sym, refl, ap, inl, inr, arith}
use borrow.Author.Tests.{clash}
use Rattle.std.proofs.lemmas.Bool.Decides.{nat_tests}
use Rattle.std.proofs.lemmas.Bool.{leb-true, cases_lt, cond_both}
use Rattle.std.proofs.lemmas.List.{get_or-set_same, get_or-set_other}
use Rattle.model.specs.Limits.{count_bound}
use Rattle.model.specs.Clock.{Clock, at, sum, below, join, tick, small}
use Rattle.model.proofs.Lists.{set_split}

-- each count of c is at most that of d
abbrev pub Below : Clock → Clock → Type 0
Below c d = (j : ℕ) → at c j ≤ at d j

pub below_at : (c d : Clock) → below c d ≡ true → Below c d
unfolding below
below_at [] d e j = omega arith
below_at (x ∷ c) [] e zero = grind (arith, nat_tests)
below_at (x ∷ c) [] e (suc j) = below_at c [] (grind arith) j
below_at (x ∷ c) (y ∷ d) e zero = grind (arith, nat_tests)
below_at (x ∷ c) (y ∷ d) e (suc j) = below_at c d (grind arith) j

pub at_below : (c d : Clock) → Below c d → below c d ≡ true
unfolding below
at_below [] d f = refl
at_below (x ∷ c) [] f = let r : below c [] ≡ true = at_below c [] (λ j. f (suc j)) in let h : x ≤ 0 = f 0 in grind (arith, nat_tests)
at_below (x ∷ c) (y ∷ d) f = let r : below c d ≡ true = at_below c d (λ j. f (suc j)) in let h : x ≤ y = f 0 in grind (arith, nat_tests)

-- where not, there is a count that is larger
pub above_at : (c d : Clock) → below c d ≡ false → (j : ℕ) × (at d j < at c j)
unfolding below
above_at [] d e = absurd (clash (grind arith))
above_at (x ∷ c) [] e = elim (cases_lt 0 x) [
  | inr h ↦ (let t : (j : ℕ) × (at [] j < at c j) = above_at c [] (grind (arith, nat_tests)) in (suc t.0, t.1))
  | inl h ↦ (0, h)
]
above_at (x ∷ c) (y ∷ d) e = elim (cases_lt y x) [
  | inr h ↦ (let t : (j : ℕ) × (at d j < at c j) = above_at c d (grind (arith, nat_tests)) in (suc t.0, t.1))
  | inl h ↦ (0, h)
]

pub clock_ext : (c d : Clock) → length c ≡ length d → Below c d → Below d c → c ≡ d
clock_ext [] [] e f g = refl
clock_ext [] (y ∷ d) e f g = absurd (omega arith)
clock_ext (x ∷ c) [] e f g = absurd (omega arith)
clock_ext (x ∷ c) (y ∷ d) e f g =
    let p : x ≡ y = omega (arith, f 0, g 0) in
    let q : c ≡ d = clock_ext c d (omega arith) (λ j. f (suc j)) (λ j. g (suc j)) in
    λ n. p n ∷ q n

-- one more
pub tick_up : (c : Clock) (i : ℕ) → Below c (tick c i)
tick_up c i j = set_split (λ n. at c j ≤ n) 0 c i j (suc (at c i)) (λ e. omega (arith, ap (at c) e)) (omega arith)

pub tick_same : (c : Clock) (i : ℕ) → i < length c → at (tick c i) i ≡ suc (at c i)
tick_same c i h = get_or-set_same c i (suc (at c i)) 0 h

pub tick_other : (c : Clock) (i j : ℕ) → i ≢ j → at (tick c i) j ≡ at c j
tick_other c i j h = get_or-set_other c i j (suc (at c i)) 0 (λ e. h (sym e))

-- sums
pub sum_le : (c d : Clock) → Below c d → sum c ≤ sum d
unfolding sum
sum_le [] d f = omega arith
sum_le (x ∷ c) [] f = let r : sum c ≤ sum [] = sum_le c [] (λ j. f (suc j)) in omega (arith, f 0)
sum_le (x ∷ c) (y ∷ d) f = let r : sum c ≤ sum d = sum_le c d (λ j. f (suc j)) in omega (arith, f 0)

pub sum_lt : (c d : Clock) (j : ℕ) → Below c d → at c j < at d j → sum c < sum d
unfolding sum
sum_lt c [] j f h = absurd (omega arith)
sum_lt [] (y ∷ d) zero f h = omega arith
sum_lt [] (y ∷ d) (suc j) f h = let r : sum [] < sum d = sum_lt [] d j (λ k. f (suc k)) h in omega arith
sum_lt (x ∷ c) (y ∷ d) zero f h = let r : sum c ≤ sum d = sum_le c d (λ k. f (suc k)) in omega arith
sum_lt (x ∷ c) (y ∷ d) (suc j) f h = let r : sum c < sum d = sum_lt c d j (λ k. f (suc k)) h in omega (arith, f 0)

pub sum_few : (c d : Clock) (n m : ℕ) → length c ≡ n → length d ≡ n → ((j : ℕ) → at c j ≤ at d j + m) → sum c ≤ sum d + n * m
unfolding sum
sum_few [] d n m e f g = omega arith
sum_few (x ∷ c) [] n m e f g = absurd (omega arith)
sum_few (x ∷ c) (y ∷ d) zero m e f g = absurd (omega arith)
sum_few (x ∷ c) (y ∷ d) (suc n) m e f g =
    let r : sum c ≤ sum d + n * m = sum_few c d n m (omega arith) (omega arith) (λ j. g (suc j)) in
    omega (arith, g 0)

-- a count of a join is one of the two, and at least the first
pub join_split : (P : ℕ → Type 0) (c d : Clock) (j : ℕ) → P (at c j) → P (at d j) → P (at (join c d) j)
unfolding join
join_split P [] d j x y = x
join_split P (a ∷ c) [] zero x y = x
join_split P (a ∷ c) [] (suc j) x y = join_split P c [] j x y
join_split P (a ∷ c) (b ∷ d) zero x y = cond_both (leb a b) b a P (λ _. y) (λ _. x)
join_split P (a ∷ c) (b ∷ d) (suc j) x y = join_split P c d j x y

pub join_up : (c d : Clock) → Below c (join c d)
unfolding join
join_up [] d j = omega arith
join_up (a ∷ c) [] zero = omega arith
join_up (a ∷ c) [] (suc j) = join_up c [] j
join_up (a ∷ c) (b ∷ d) zero = cond_both (leb a b) b a (λ n. a ≤ n) (λ e. leb-true a b e) (λ _. omega arith)
join_up (a ∷ c) (b ∷ d) (suc j) = join_up c d j

pub small_of : (c : Clock) → ((j : ℕ) → at c j < count_bound) → small c ≡ true
unfolding small
small_of [] f = refl
small_of (n ∷ c) f = let r : small c ≡ true = small_of c (λ j. f (suc j)) in let h : n < count_bound = f 0 in grind (arith, nat_tests)
