-- Clocks, count by count, as the chains and the loop over them go.
use Rattle.std.proofs.Common.{◌≡◌, ℕ, zero, suc, ◌+◌, ◌*◌, ◌%◌, ◌^◌, ◌<◌, ◌≤◌, max, Bool, true, false, cond, ◌&&◌, leb, List, [], ◌∷◌, ◌++◌, length, get_or, take, drop, set, refl, ap, ◌∙◌, inl, inr, arith}
use Rattle.std.specs.Bool.{MatchBool}
use Rattle.std.specs.List.{zip, fold, AllWithin, HoldsAt}
use Rattle.std.proofs.lemmas.List.{drop_more, drop_all, take_all, take_more_set, drop-set-lt, append_assoc, append-nil}
use Rattle.std.proofs.lemmas.Bool.{cases_lt, le-leb, lt-leb}
use Rattle.model.specs.Limits.{count_bound}
use Rattle.model.specs.Clock.{below, join, sum}
use Rattle.puts.specs.Values.{Small}

below_all : (xs ys : List ℕ) → length xs ≡ length ys → AllWithin (λ (p : ℕ × ℕ). p.0 ≤ p.1) (zip xs ys) 0 (length (zip xs ys)) → true ≡ below xs ys
unfolding below
below_all [] ys e f = refl
below_all (x ∷ xs) [] e f = absurd (omega arith)
below_all (x ∷ xs) (y ∷ ys) e f = rw (le-leb x y (f 0 (0, 0) (omega arith) (omega arith))) (below_all xs ys (omega arith) (λ k d h g. f (suc k) d (omega arith) (omega arith)))

not_below : (xs ys : List ℕ) (k : ℕ) → length xs ≡ length ys → k < length (zip xs ys) → HoldsAt (λ (p : ℕ × ℕ). p.1 < p.0) (zip xs ys) k → false ≡ below xs ys
unfolding below
not_below [] ys k e l h = absurd (omega arith)
not_below (x ∷ xs) [] k e l h = absurd (omega arith)
not_below (x ∷ xs) (y ∷ ys) zero e l h = rw (lt-leb x y (h (0, 0)))
not_below (x ∷ xs) (y ∷ ys) (suc k) e l h = rw (← not_below xs ys k (omega arith) (omega arith) h) (elim (leb x y) as (λ b. false ≡ (b && false)) [ true ↦ refl | false ↦ refl ])

-- `all` over the pairs
pub below_cases : (xs ys : List ℕ) (b : Bool) → length xs ≡ length ys →
    MatchBool b (AllWithin (λ (p : ℕ × ℕ). p.0 ≤ p.1) (zip xs ys) 0 (length (zip xs ys))) ((k : ℕ) × (k < length (zip xs ys)) × HoldsAt (λ (p : ℕ × ℕ). p.1 < p.0) (zip xs ys) k) → b ≡ below xs ys
below_cases xs ys true e h = below_all xs ys e h
below_cases xs ys false e h = not_below xs ys h.0 e h.1 h.2

-- k small counts were added up, and do not wrap with those that are left
sum_from : (k n : ℕ) (xs : List ℕ) → Small xs → n ≤ k * count_bound → k + length xs < 2 ^ 32 → fold (λ a x. (a + x) % 2 ^ 64) n xs ≡ n + sum xs
unfolding sum
sum_from k n [] small h l = omega arith
sum_from k n (x ∷ xs) small h l =
    let s = small 0 in
    let e : (n + x) % 2 ^ 64 ≡ n + x = omega arith in
    ap (λ a. fold (λ a x. (a + x) % 2 ^ 64) a xs) e ∙ sum_from (suc k) (n + x) xs (λ i. small (suc i)) (omega arith) (omega arith) ∙ omega arith

pub sum_is : (xs : List ℕ) → length xs < 2 ^ 32 → Small xs → fold (λ a x. (a + x) % 2 ^ 64) 0 xs ≡ sum xs
sum_is xs l small = sum_from 0 0 xs small (omega arith) (omega arith) ∙ omega arith

larger_is : (a b : ℕ) → cond (leb a b) b a ≡ max a b
larger_is a b = elim (cases_lt b a) [ inl t ↦ rw (lt-leb a b t) (omega arith) | inr t ↦ rw (le-leb a b t) (omega arith) ]

join_step : (xs ys : List ℕ) (i : ℕ) → i < length xs → i < length ys → join (drop i xs) (drop i ys) ≡ cond (leb (get_or xs i 0) (get_or ys i 0)) (get_or ys i 0) (get_or xs i 0) ∷ join (drop (i + 1) xs) (drop (i + 1) ys)
unfolding join
join_step xs ys i h g = rw (drop_more xs i 0 h, drop_more ys i 0 g)

pub join_goes : (xs ys zs : List ℕ) (i : ℕ) → i < length xs → i < length ys → take i xs ++ join (drop i xs) (drop i ys) ≡ zs → take (i + 1) (set xs i (max (get_or xs i 0) (get_or ys i 0))) ++ join (drop (i + 1) (set xs i (max (get_or xs i 0) (get_or ys i 0)))) (drop (i + 1) ys) ≡ zs
join_goes xs ys zs i h g e =
    let lt : i < i + 1 = omega arith in
    rw (take_more_set xs i (max (get_or xs i 0) (get_or ys i 0)) h, drop-set-lt (i + 1) xs i (max (get_or xs i 0) (get_or ys i 0)) lt, append_assoc)
    (rw (join_step xs ys i h g, larger_is) at e)

pub join_ends : (xs ys zs : List ℕ) (i : ℕ) → length xs ≤ i → take i xs ++ join (drop i xs) (drop i ys) ≡ zs → xs ≡ zs
unfolding join
join_ends xs ys zs i h e = rw (drop_all i xs h, take_all i xs h, append-nil) at e
