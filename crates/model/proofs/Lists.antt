-- Places in lists, membership, and what a filter keeps.
use Rattle.std.proofs.Common.{◌≡◌, ℕ, zero, suc, ◌<◌, ◌≤◌, Bool, true, false, not, eqb, ◌≢◌, ◌⊎◌, List, [], ◌∷◌, ◌++◌, length, get_or, take, set, replicate, filter, refl, ap, subst, inl, inr, arith}
use mathlib.Core.List.{reverse_aux}
use Rattle.std.proofs.lemmas.Bool.{eqb-true, eqb-false, cond-true, cond-false, cond_both}
use Rattle.std.proofs.lemmas.List.Filters.{length-filter_both}
use Rattle.model.specs.Lists.{In}
use Rattle.model.specs.Cluster.{update}

-- what a choice by place gives: x at i, else f
pub update_split : {A : Type 0} (P : A → Type 0) (f : ℕ → A) (i : ℕ) (x : A) (j : ℕ) → (i ≡ j → P x) → (i ≢ j → P (f j)) → P (update f i x j)
update_split P f i x j same other = cond_both (eqb i j) x (f j) P (λ t. same (eqb-true i j t)) (λ t. other (eqb-false i j t))

-- what stands at j after i was set: the new if i is j, or what stood there
pub set_split : {A : Type 0} (P : A → Type 0) (d : A) (xs : List A) (i j : ℕ) (a : A) → (i ≡ j → P a) → P (get_or xs j d) → P (get_or (set xs i a) j d)
set_split P d [] i j a f o = o
set_split P d (x ∷ xs) zero zero a f o = f refl
set_split P d (x ∷ xs) zero (suc j) a f o = o
set_split P d (x ∷ xs) (suc i) zero a f o = o
set_split P d (x ∷ xs) (suc i) (suc j) a f o = set_split P d xs i j a (λ e. f (ap suc e)) o

pub get_or_either : {A : Type 0} (d : A) (n : ℕ) (a : A) (i : ℕ) → (get_or (replicate n a) i d ≡ a) ⊎ (get_or (replicate n a) i d ≡ d)
get_or_either d zero a i = inr refl
get_or_either d (suc n) a zero = inl refl
get_or_either d (suc n) a (suc i) = get_or_either d n a i

-- membership
pub in_append : {A : Type 0} (x : A) (xs ys : List A) → In x (xs ++ ys) → In x xs ⊎ In x ys
in_append x [] ys i = inr i
in_append x (y ∷ xs) ys (inl e) = inl (inl e)
in_append x (y ∷ xs) ys (inr i) = elim (in_append x xs ys i) [ inl j ↦ inl (inr j) | inr j ↦ inr j ]

pub in_left : {A : Type 0} (x : A) (xs ys : List A) → In x xs → In x (xs ++ ys)
in_left x [] ys i = absurd i
in_left x (y ∷ xs) ys (inl e) = inl e
in_left x (y ∷ xs) ys (inr i) = inr (in_left x xs ys i)

pub in_right : {A : Type 0} (x : A) (xs ys : List A) → In x ys → In x (xs ++ ys)
in_right x [] ys i = i
in_right x (y ∷ xs) ys i = inr (in_right x xs ys i)

pub in_take : {A : Type 0} (n : ℕ) (xs : List A) (x : A) → In x (take n xs) → In x xs
in_take zero xs x i = absurd i
in_take (suc n) [] x i = absurd i
in_take (suc n) (y ∷ xs) x (inl e) = inl e
in_take (suc n) (y ∷ xs) x (inr i) = inr (in_take n xs x i)

pub in_reversed : {A : Type 0} (xs acc : List A) (x : A) → In x (reverse_aux xs acc) → In x xs ⊎ In x acc
in_reversed [] acc x i = inr i
in_reversed (y ∷ xs) acc x i = elim (in_reversed xs (y ∷ acc) x i) [ inl j ↦ inl (inr j) | inr j ↦ elim j [ inl e ↦ inl (inl e) | inr k ↦ inr k ] ]

-- filters
module _ {A : Type 0} (f : A → Bool) where
  pub in_kept : (x : A) (xs : List A) → In x (filter f xs) → In x xs × (f x ≡ true)
  in_kept x [] = λ i. absurd i
  in_kept x (y ∷ ys) =
      cond_both (f y) (y ∷ filter f ys) (filter f ys) (λ zs. In x zs → In x (y ∷ ys) × (f x ≡ true))
      (λ t i. elim i [ inl e ↦ (inl e, rw e t) | inr j ↦ (let r : In x ys × (f x ≡ true) = in_kept x ys j in (inr r.0, r.1)) ])
      (λ _ i. let r : In x ys × (f x ≡ true) = in_kept x ys i in (inr r.0, r.1))

  pub kept_in : (x : A) (xs : List A) → In x xs → f x ≡ true → In x (filter f xs)
  kept_in x [] i t = i
  kept_in x (y ∷ ys) (inl e) t = rw (cond-true (f y) (y ∷ filter f ys) (filter f ys) (subst (λ z. f z ≡ true) e t)) (inl e)
  kept_in x (y ∷ ys) (inr j) t = cond_both (f y) (y ∷ filter f ys) (filter f ys) (λ zs. In x zs) (λ _. inr (kept_in x ys j t)) (λ _. kept_in x ys j t)

  pub length_kept : (xs : List A) → length (filter f xs) ≤ length xs
  length_kept xs = omega (arith, length-filter_both f (λ x. not (f x)) (λ _. refl) xs)

  pub fewer_kept : (x : A) (xs : List A) → In x xs → f x ≡ false → length (filter f xs) < length xs
  fewer_kept x [] i t = absurd i
  fewer_kept x (y ∷ ys) (inl e) t = rw (cond-false (f y) (y ∷ filter f ys) (filter f ys) (subst (λ z. f z ≡ false) e t)) (omega (arith, length_kept ys))
  fewer_kept x (y ∷ ys) (inr j) t =
      let r : length (filter f ys) < length ys = fewer_kept x ys j t in
      cond_both (f y) (y ∷ filter f ys) (filter f ys) (λ zs. length zs < suc (length ys)) (λ _. omega arith) (λ _. omega arith)
