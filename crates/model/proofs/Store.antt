-- The store as a fold of puts: what it shows only goes on, and is the latest of the puts.
use Rattle.std.proofs.Common.{◌≡◌, ℕ, ◌<◌, true, false, ◌&&◌, eqb, ◌⊎◌, List, [], ◌∷◌, ◌++◌, length, sym, refl, ap, ◌∙◌, subst, inl, inr, arith}
use Rattle.std.proofs.lemmas.Bool.Decides.{nat_tests}
use Rattle.std.proofs.lemmas.Bool.{eq-eqb, both_ways, cases_eq, cond_both}
use Rattle.std.proofs.lemmas.List.{length-set, length-replicate, get_or-set_same, get_or-set_other}
use Rattle.model.specs.Lists.{In}
use Rattle.model.specs.Limits.{Limits}
use Rattle.model.specs.Clock.{Clock}
use Rattle.model.specs.Put.{Put, number, later, had, Body, key_of}
use Rattle.model.specs.Store.{Store, new_store, shown, stand, stored, stored_all, of_key, latest}
use Rattle.model.specs.Theorems.{not_back}
use Rattle.model.proofs.Lists.{set_split, get_or_either}
use Rattle.model.proofs.Made.{later_trans, later_not_both, Compares, Total}

abbrev pub key : Put Body → ℕ
key p = key_of p.body

pub stored_append : (ps qs : List (Put Body)) (s : Store) → stored_all (ps ++ qs) s ≡ stored_all ps (stored_all qs s)
unfolding stored_all
stored_append [] qs s = refl
stored_append (p ∷ ps) qs s = ap (stored p) (stored_append ps qs s)

pub length_stored : (ps : List (Put Body)) (s : Store) → length (stored_all ps s) ≡ length s
unfolding stored_all
length_stored [] s = refl
length_stored (p ∷ ps) s = length-set (stored_all ps s) (key p) (stand p (shown (stored_all ps s) (key p))) ∙ length_stored ps s

-- THE VIEW ONLY GOES ON: at a key stands the same put after, or a later one
abbrev On : List (Put Body) → List (Put Body) → Type 0
On [] qs = Unit {0}
On (p ∷ ps) [] = ⊥
On (p ∷ ps) (q ∷ qs) = (p ≡ q) ⊎ (later q p ≡ true)

on_refl : (ps : List (Put Body)) → On ps ps
on_refl [] = tt
on_refl (p ∷ ps) = inl refl

on_stand : (p : Put Body) (ps qs : List (Put Body)) → On ps qs → On ps (stand p qs)
unfolding stand
on_stand p [] qs o = tt
on_stand p (a ∷ ps) [] o = absurd o
on_stand p (a ∷ ps) (q ∷ qs) o = cond_both (later p q) (p ∷ []) (q ∷ []) (On (a ∷ ps)) (λ t. inr (elim o [ inl e ↦ rw e t | inr u ↦ later_trans p q a t u ])) (λ _. o)

on_stored : (ps : List (Put Body)) (s : Store) (k : ℕ) → On (shown s k) (shown (stored_all ps s) k)
unfolding stored_all
on_stored [] s k = on_refl (shown s k)
on_stored (p ∷ ps) s k =
    let r : On (shown s k) (shown (stored_all ps s) k) = on_stored ps s k in
    set_split (On (shown s k)) [] (stored_all ps s) (key p) k (stand p (shown (stored_all ps s) (key p)))
    (λ e. subst (λ j. On (shown s k) (stand p (shown (stored_all ps s) j))) (sym e) (on_stand p (shown s k) (shown (stored_all ps s) k) r)) r

on_not_back : (ps qs : List (Put Body)) → On ps qs → not_back ps qs ≡ true
unfolding not_back
on_not_back [] qs o = refl
on_not_back (p ∷ ps) [] o = absurd o
on_not_back (p ∷ ps) (q ∷ qs) (inl e) = let f : p.from ≡ q.from = ap (λ z. z.from) e in let n : number p ≡ number q = ap number e in grind (arith, nat_tests)
on_not_back (p ∷ ps) (q ∷ qs) (inr u) = grind arith

pub view_on : (ps : List (Put Body)) (s : Store) (k : ℕ) → not_back (shown s k) (shown (stored_all ps s) k) ≡ true
view_on ps s k = on_not_back (shown s k) (shown (stored_all ps s) k) (on_stored ps s k)

-- THE LATEST of the puts of key k in M: none, or the one that is later than all others
abbrev pub Latest : (Put Body → Type 0) → ℕ → List (Put Body) → Type 0
Latest M k [] = (q : Put Body) → M q → key q ≡ k → ⊥
Latest M k (p ∷ ps) = (ps ≡ []) × M p × (key p ≡ k) × ((q : Put Body) → M q → key q ≡ k → (q ≡ p) ⊎ (later p q ≡ true))

pub latest_one : (M : Put Body → Type 0) (k : ℕ) (s t : List (Put Body)) → Latest M k s → Latest M k t → s ≡ t
latest_one M k [] [] a b = refl
latest_one M k [] (q ∷ qs) a b = absurd (a q b.1 b.2)
latest_one M k (p ∷ ps) [] a b = absurd (b p a.1 a.2)
latest_one M k (p ∷ ps) (q ∷ qs) a b =
    let e : p ≡ q = elim (a.3 q b.1 b.2) [
      | inl d ↦ sym d
      | inr u ↦ elim (b.3 p a.1 a.2) [ inl d ↦ d | inr z ↦ absurd (later_not_both p q u z) ]
    ] in
    let f : ps ≡ qs = a.0 ∙ sym b.0 in
    λ n. e n ∷ f n

-- it depends only on which puts of the key there are
pub latest_same : (M N : Put Body → Type 0) (k : ℕ) (s : List (Put Body)) → ((q : Put Body) → key q ≡ k → M q → N q) → ((q : Put Body) → key q ≡ k → N q → M q) → Latest M k s → Latest N k s
latest_same M N k [] f g a = λ q n e. a q (g q e n) e
latest_same M N k (p ∷ ps) f g a = (a.0, f p a.2 a.1, a.2, λ q n e. a.3 q (g q e n) e)

-- one more put of the key
latest_add : (M : Put Body → Type 0) (k : ℕ) (p : Put Body) (s : List (Put Body)) → key p ≡ k → ((a : Put Body) → M a → Compares p a) → Latest M k s → Latest (λ q. (q ≡ p) ⊎ M q) k (stand p s)
unfolding stand
latest_add M k p [] e t s = (refl, inl refl, e, λ q i f. elim i [ inl d ↦ inl d | inr j ↦ absurd (s q j f) ])
latest_add M k p (a ∷ az) e t s =
    cond_both (later p a) (p ∷ []) (a ∷ []) (Latest (λ q. (q ≡ p) ⊎ M q) k)
    (λ y. (refl, inl refl, e, λ q i f. elim i [ inl d ↦ inl d | inr j ↦ inr (elim (s.3 q j f) [ inl d ↦ rw d y | inr u ↦ later_trans p a q y u ]) ]))
    (λ y. (
      refl,
      inr s.1,
      s.2,
      λ q i f. elim i [
        | inr j ↦ s.3 q j f
        | inl d ↦ elim (t a s.1) [ inl z ↦ inl (d ∙ z) | inr z ↦ elim z [ inl u ↦ absurd (both_ways (later p a) y u) | inr u ↦ inr (rw d u) ] ]
      ],
    ))

-- what a fold of puts shows is the latest of them
pub fold_latest : (l : Limits) (ts : List (Put Body)) → Total ts → ((p : Put Body) → In p ts → key p < l.keys) → (k : ℕ) → Latest (λ q. In q ts) k (shown (stored_all ts (new_store l)) k)
unfolding stored_all
fold_latest l [] t b k = subst (Latest (λ q. In q []) k) (elim (get_or_either [] l.keys [] k) [ inl e ↦ sym e | inr e ↦ sym e ]) (λ q i e. i)
fold_latest l (p ∷ ts) t b k =
    let s : Store = stored_all ts (new_store l) in
    let r : (j : ℕ) → Latest (λ q. In q ts) j (shown s j) = fold_latest l ts (λ a c i j. t a c (inr i) (inr j)) (λ q i. b q (inr i)) in
    let long : key p < length s = subst (λ n. key p < n) (sym (length_stored ts (new_store l) ∙ length-replicate l.keys [])) (b p (inl refl)) in
    elim (cases_eq (key p) k) [
      | inl e ↦ subst (λ j. Latest (λ q. In q (p ∷ ts)) j (shown (stored p s) j)) e
          (subst (Latest (λ q. In q (p ∷ ts)) (key p)) (sym (get_or-set_same s (key p) (stand p (shown s (key p))) [] long))
          (latest_add (λ q. In q ts) (key p) p (shown s (key p)) refl (λ a i. t p a (inl refl) (inr i)) (r (key p))))
      | inr n ↦ subst (Latest (λ q. In q (p ∷ ts)) k) (sym (get_or-set_other s (key p) k (stand p (shown s (key p))) [] (λ e. n (sym e))))
          (latest_same (λ q. In q ts) (λ q. In q (p ∷ ts)) k (shown s k) (λ q e i. inr i) (λ q e i. elim i [ inl d ↦ absurd (n (sym (ap key d) ∙ e)) | inr j ↦ j ]) (r k))
    ]

-- and so is the latest of those of a list that a clock has
pub of_key_latest : (c : Clock) (k : ℕ) (ms : List (Put Body)) → Total ms → Latest (λ q. In q ms × (had c q ≡ true)) k (latest (of_key k c ms))
unfolding latest
of_key_latest c k [] t = λ q i e. i.0
of_key_latest c k (p ∷ ms) t =
    let M : Put Body → Type 0 = λ q. In q ms × (had c q ≡ true) in
    let N : Put Body → Type 0 = λ q. In q (p ∷ ms) × (had c q ≡ true) in
    let r : Latest M k (latest (of_key k c ms)) = of_key_latest c k ms (λ a b i j. t a b (inr i) (inr j)) in
    cond_both (eqb (key p) k && had c p) (p ∷ of_key k c ms) (of_key k c ms) (λ z. Latest N k (latest z))
    (λ e.
    let h : had c p ≡ true = grind arith in
    latest_same (λ q. (q ≡ p) ⊎ M q) N k (stand p (latest (of_key k c ms)))
    (λ q f i. elim i [ inl d ↦ (inl d, rw d h) | inr j ↦ (inr j.0, j.1) ])
    (λ q f i. elim i.0 [ inl d ↦ inl d | inr j ↦ inr (j, i.1) ])
    (latest_add M k p (latest (of_key k c ms)) (grind (arith, nat_tests)) (λ a i. t p a (inl refl) (inr i.0)) r))
    (λ e. latest_same M N k (latest (of_key k c ms)) (λ q f i. (inr i.0, i.1))
    (λ q f i. elim i.0 [ inl d ↦ absurd (skip q f d i.1 e) | inr j ↦ (j, i.1) ]) r)
  where
    skip : (q : Put Body) → key q ≡ k → q ≡ p → had c q ≡ true → (eqb (key p) k && had c p) ≡ false → ⊥
    skip q f d h e =
        let a : eqb (key p) k ≡ true = eq-eqb (key p) k (sym (ap key d) ∙ f) in
        let b : had c p ≡ true = subst (λ z. had c z ≡ true) d h in
        both_ways (eqb (key p) k && had c p) e (grind arith)
