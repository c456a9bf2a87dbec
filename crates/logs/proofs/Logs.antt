-- What leaves the log, and what is answered from it.
use Rattle.std.proofs.Common.{◌≡◌, ℕ, zero, suc, ◌+◌, ◌-◌, ◌<◌, ◌≤◌, min, Bool, true, false, cond, not, ◌&&◌, leb, List, [], ◌∷◌, reverse, length, get_or, take, filter, sym, refl, ap, ◌∙◌, subst, inl, inr, arith}
use mathlib.Core.List.{reverse_aux}
use Rattle.std.specs.List.{fold, range_with_len}
use Rattle.std.proofs.lemmas.List.{length-take, length-reverse, get_or-take, get_or-reverse, drop_more, drop_all}
use Rattle.std.proofs.lemmas.Bool.{cases_lt, le-leb, lt-leb}
use Rattle.std.proofs.ByRecursion.{All-get_or, All-from_get_or, all_kept_by}
use Rattle.model.specs.Lists.{In}
use Rattle.model.specs.Limits.{reply_most}
use Rattle.model.specs.Clock.{Clock, at}
use Rattle.model.specs.Put.{Put, Body, number, had}
use Rattle.model.specs.Delivery.{Delivery, all_have, pruned, reply}
use Rattle.memory.specs.Valid.{Down}
use Rattle.logs.specs.State.{nth_of}
use Rattle.logs.specs.Log.{least, lacked_of}

-- what holds of each by its place, holds of each that a filter keeps
abbrev pub AllAt : {A : Type 0} → (A → Type 0) → List A → Type 0
AllAt {A} P xs = (k : ℕ) (d : A) → k < length xs → P (get_or xs k d)

pub kept_at : {A : Type 0} (P : A → Type 0) (f : A → Bool) (xs : List A) (d : A) → AllAt P xs → AllAt P (filter f xs)
kept_at P f xs d a k e h = All-get_or P (filter f xs) k e h (all_kept_by f P xs (All-from_get_or P xs d (λ i g. a i d g)))

pub in_at : {A : Type 0} (P : A → Type 0) (xs : List A) (x : A) → AllAt P xs → In x xs → P x
in_at P [] x a i = absurd i
in_at P (y ∷ xs) x a (inl e) = subst P (sym e) (a 0 y (omega arith))
in_at P (y ∷ xs) x a (inr i) = in_at P xs x (λ k d h. a (suc k) d (omega arith)) i

-- THE SMALLEST COUNT
pub least_over : (smaller : ℕ → ℕ → ℕ) (s me j : ℕ) (cs : List Clock) → ((n i k : ℕ) → i < length cs → k ≡ j + i → smaller n k ≡ min n (at (get_or cs i []) me)) → fold smaller s (range_with_len j (length cs)) ≡ least s me cs
unfolding least
least_over smaller s me j [] h = refl
least_over smaller s me j (c ∷ cs) h =
    ap (λ n. fold smaller n (range_with_len (j + 1) (length cs))) (h s 0 j (omega arith) (omega arith))
    ∙ least_over smaller (min s (at c me)) me (j + 1) cs (λ n i k lt e. h n (suc i) k (omega arith) (omega arith))

and_min : (n a s : ℕ) (b : Bool) → ((leb n a && b) && leb n s) ≡ (b && leb n (min s a))
and_min n a s true = elim (cases_lt a n) [
  | inl t ↦ rw (lt-leb n a t, lt-leb n (min s a) (omega arith))
  | inr t ↦ rw (le-leb n a t) (elim (cases_lt s n) [ inl u ↦ lt-leb n s u ∙ sym (lt-leb n (min s a) (omega arith)) | inr u ↦ le-leb n s u ∙ sym (le-leb n (min s a) (omega arith)) ])
]
and_min n a s false = elim (cases_lt a n) [ inl t ↦ rw (lt-leb n a t) | inr t ↦ rw (le-leb n a t) ]

all_least : (cs : List Clock) (p : Put Body) (s : ℕ) → (all_have cs p && leb (number p) s) ≡ leb (number p) (least s p.from cs)
unfolding all_have least
all_least [] p s = refl
all_least (c ∷ cs) p s = and_min (number p) (at c p.from) s (all_have cs p) ∙ all_least cs p (min s (at c p.from))

and_true : (b : Bool) → (b && true) ≡ b
and_true true = refl
and_true false = refl

all_have_is : (cs : List Clock) (p : Put Body) (me s : ℕ) → p.from ≡ me → number p ≤ s → all_have cs p ≡ leb (number p) (least s me cs)
all_have_is cs p me s e h =
    sym (ap (λ b. all_have cs p && b) (le-leb (number p) s h) ∙ and_true (all_have cs p)) ∙ all_least cs p s ∙ ap (λ i. leb (number p) (least s i cs)) e

take_none : {A : Type 0} (n : ℕ) (xs : List A) → n ≡ 0 → take n xs ≡ []
take_none n xs e = ap (λ k. take k xs) e

take_suc : {A : Type 0} (n k : ℕ) (x : A) (xs : List A) → n ≡ suc k → take n (x ∷ xs) ≡ x ∷ take k xs
take_suc n k x xs e = ap (λ j. take j (x ∷ xs)) e

take_nil : {A : Type 0} (n : ℕ) → ◌≡◌ {A = List A} [] (take n [])
take_nil zero = refl
take_nil (suc n) = refl

-- what passes a test that only the numbers above n pass, is the front of the log
front_is : (f : Put Body → Bool) (ps : List (Put Body)) (me k n : ℕ) → Down me k ps → ((p : Put Body) → p.from ≡ me → number p ≤ k → f p ≡ not (leb (number p) n)) → filter f ps ≡ take (k - n) ps
unfolding Down
front_is f [] me k n d t = take_nil (k - n)
front_is f (p ∷ ps) me k n d t =
    let nk : number p ≡ k = d.0.1 in
    let r = front_is f ps me (k - 1) n d.1 (λ q e h. t q e (omega arith)) in
    let a = t p d.0.0 (omega arith) in
    elim (cases_lt n k) [
      | inl h ↦ ap (λ b. cond b (p ∷ filter f ps) (filter f ps)) (a ∙ ap not (lt-leb (number p) n (omega arith))) ∙ ap (λ x. p ∷ x) r ∙ sym (take_suc (k - n) ((k - 1) - n) p ps (omega arith))
      | inr h ↦ ap (λ b. cond b (p ∷ filter f ps) (filter f ps)) (a ∙ ap not (le-leb (number p) n (omega arith))) ∙ r ∙ take_none ((k - 1) - n) ps (omega arith) ∙ sym (take_none (k - n) (p ∷ ps) (omega arith))
    ]

-- WHAT LEAVES IT: all but the front
pub pruned_is : (cs : List Clock) (ps : List (Put Body)) (me k : ℕ) → Down me k ps → pruned cs ps ≡ take (k - least k me cs) ps
pruned_is cs ps me k d = front_is (λ p. not (all_have cs p)) ps me k (least k me cs) d (λ p e h. ap not (all_have_is cs p me k e h))

-- WHAT IS ANSWERED: the front, the earliest first
kept_reversed : {A : Type 0} (f : A → Bool) (xs acc : List A) → filter f (reverse_aux xs acc) ≡ reverse_aux (filter f xs) (filter f acc)
kept_reversed f [] acc = refl
kept_reversed f (x ∷ xs) acc = kept_reversed f xs (x ∷ acc) ∙ by (f x)
  where
    by : (b : Bool) → reverse_aux (filter f xs) (cond b (x ∷ filter f acc) (filter f acc)) ≡ reverse_aux (cond b (x ∷ filter f xs) (filter f xs)) (filter f acc)
    by true = refl
    by false = refl

reply_is : (c : Clock) (d : Delivery Body) → Down d.me (at d.clock d.me) d.log → reply c d ≡ take reply_most (reverse (take (at d.clock d.me - at c d.me) d.log))
reply_is c d w =
    ap (take reply_most)
    (kept_reversed (λ p. not (had c p)) d.log []
    ∙ ap reverse (front_is (λ p. not (had c p)) d.log d.me (at d.clock d.me) (at c d.me) w (λ p e h. ap (λ i. not (leb (number p) (at c i))) e)))

pub reply_length : (c : Clock) (d : Delivery Body) → Down d.me (at d.clock d.me) d.log → length (reply c d) ≡ min reply_most (lacked_of c d)
reply_length c d w =
    let n : ℕ = at d.clock d.me - at c d.me in
    ap length (reply_is c d w) ∙ length-take reply_most (reverse (take n d.log)) ∙ ap (min reply_most) (length-reverse (take n d.log) ∙ length-take n d.log)

pub nth_some : {A : Type 0} (xs : List A) (i : ℕ) (d : A) → i < length xs → nth_of xs i ≡ get_or xs i d ∷ []
nth_some xs i d h = ap (take 1) (drop_more xs i d h)

pub nth_none : {A : Type 0} (xs : List A) (i : ℕ) → length xs ≤ i → nth_of xs i ≡ []
nth_none xs i h = ap (take 1) (drop_all i xs h)

pub reply_at : (c : Clock) (d : Delivery Body) (i : ℕ) (x : Put Body) → Down d.me (at d.clock d.me) d.log → i < length (reply c d) → get_or (reply c d) i x ≡ get_or d.log ((lacked_of c d - 1) - i) x
reply_at c d i x w h =
    let n : ℕ = at d.clock d.me - at c d.me in
    let t : List (Put Body) = take n d.log in
    let e = reply_length c d w in
    let l : length t ≡ lacked_of c d = length-take n d.log in
    ap (λ xs. get_or xs i x) (reply_is c d w) ∙ get_or-take reply_most (reverse t) i x (omega arith) ∙ get_or-reverse t i x (omega arith) ∙ ap (λ k. get_or t ((k - 1) - i) x) l
    ∙ get_or-take n d.log ((lacked_of c d - 1) - i) x (omega arith)
