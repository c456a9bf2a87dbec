-- Lists filled up with zeros: a clock of sixteen counts does what the model's does, and the model's put comes back.
use Rattle.std.proofs.Common.{◌≡◌, ℕ, zero, suc, ◌+◌, ◌-◌, ◌<◌, ◌≤◌, true, cond, ◌&&◌, ◌||◌, eqb, ltb, leb, List, [], ◌∷◌, ◌++◌, length, get_or, take, drop, set, replicate, sym, refl, ap, ◌∙◌, arith}
use Rattle.std.proofs.lemmas.List.{length-append, length-replicate, length-take-le, length-set, take_at, take-replicate, drop-replicate, set-append_left, replicate-append-replicate}
use Rattle.std.proofs.lemmas.Bool.{le-leb}
use Rattle.model.specs.Limits.{value_most}
use Rattle.model.specs.Clock.{Clock, at, below, join, sum, tick}
use Rattle.model.specs.Put.{Put, Body, text, key_of, value_of, number, later, had}
use Rattle.model.specs.Delivery.{Delivery, ready}
use Rattle.puts.specs.Values.{clock_size, pad, Small, put_of, narrow, code_put, Fit}
use Rattle.std.proofs.Math.Seq.{take-append-add}

pub pad_length : (n : ℕ) (xs : List ℕ) → length (pad n xs) ≡ n
unfolding pad
pad_length n xs =
    let z : ℕ = 0 in
    let r = length-replicate n z in
    let a = length-append xs (replicate n z) in
    length-take-le n (xs ++ replicate n z) (omega arith)

pub pad_is : (n : ℕ) (xs : List ℕ) → length xs ≤ n → pad n xs ≡ xs ++ replicate (n - length xs) 0
unfolding pad
pad_is n xs h =
    let e : n ≡ length xs + (n - length xs) = omega arith in
    let z : ℕ = 0 in
    let le : n - length xs ≤ n = omega arith in
    ap (λ m. take m (xs ++ replicate n z)) e ∙ take-append-add xs (replicate n z) (n - length xs) ∙ ap (λ t. xs ++ t) (take-replicate (n - length xs) n z le)

pub get_or_zeros : (n : ℕ) (xs : List ℕ) (i : ℕ) → get_or (xs ++ replicate n 0) i 0 ≡ get_or xs i 0
get_or_zeros zero [] i = refl
get_or_zeros (suc n) [] zero = refl
get_or_zeros (suc n) [] (suc i) = get_or_zeros n [] i
get_or_zeros n (x ∷ xs) zero = refl
get_or_zeros n (x ∷ xs) (suc i) = get_or_zeros n xs i

pub get_or_pad : (n : ℕ) (xs : List ℕ) (i : ℕ) → length xs ≤ n → get_or (pad n xs) i 0 ≡ get_or xs i 0
get_or_pad n xs i h = ap (λ t. get_or t i 0) (pad_is n xs h) ∙ get_or_zeros (n - length xs) xs i

pub pad_set : (n : ℕ) (xs : List ℕ) (i v : ℕ) → length xs ≤ n → i < length xs → set (pad n xs) i v ≡ pad n (set xs i v)
pad_set n xs i v h l =
    let z : ℕ = 0 in
    let e = length-set xs i v in
    let h' : length (set xs i v) ≤ n = omega arith in
    ap (λ t. set t i v) (pad_is n xs h) ∙ set-append_left xs (replicate (n - length xs) z) i v l ∙ ap (λ k. set xs i v ++ replicate (n - k) z) (sym e) ∙ sym (pad_is n (set xs i v) h')

pub pad_zeros : (n k : ℕ) → k ≤ n → pad n (replicate k 0) ≡ replicate n 0
unfolding pad
pad_zeros n k h = let z : ℕ = 0 in ap (take n) (replicate-append-replicate k n z) ∙ take-replicate n (k + n) z (omega arith)

-- what was filled up comes back
pub take_pad : (n k : ℕ) (xs : List ℕ) → length xs ≡ k → k ≤ n → take k (pad n xs) ≡ xs
take_pad n k xs e h = let le : length xs ≤ n = omega arith in ap (take k) (pad_is n xs le) ∙ take_at xs (replicate (n - length xs) 0) k e

-- bytes copied over zeros
pub copied_pad : (n : ℕ) (v xs : List ℕ) → xs ≡ v → length v ≤ n → xs ++ drop (length v) (replicate n 0) ≡ pad n v
copied_pad n v xs e h = ap (λ t. t ++ drop (length v) (replicate n 0)) e ∙ ap (λ t. v ++ t) (drop-replicate (length v) n 0) ∙ sym (pad_is n v h)

-- CLOCKS
pub below_refl : (c : Clock) → below c c ≡ true
unfolding below
below_refl [] = refl
below_refl (x ∷ c) = rw (le-leb x x (omega arith)) (below_refl c)

below_tail : (a b z : Clock) → length a ≡ length b → below (a ++ z) (b ++ z) ≡ below a b
unfolding below
below_tail [] [] z e = below_refl z
below_tail [] (y ∷ b) z e = absurd (omega arith)
below_tail (x ∷ a) [] z e = absurd (omega arith)
below_tail (x ∷ a) (y ∷ b) z e = ap (λ t. leb x y && t) (below_tail a b z (omega arith))

pub below_pad : (n : ℕ) (a b : Clock) → length a ≡ length b → length a ≤ n → below (pad n a) (pad n b) ≡ below a b
below_pad n a b e h =
    let lb : length b ≤ n = omega arith in
    rw (pad_is n a h, pad_is n b lb, e) (below_tail a b (replicate (n - length b) 0) e)

pub join_length : (a b : Clock) → length (join a b) ≡ length a
unfolding join
join_length [] b = refl
join_length (x ∷ a) [] = ap suc (join_length a [])
join_length (x ∷ a) (y ∷ b) = ap suc (join_length a b)

join_refl : (c : Clock) → join c c ≡ c
unfolding join
join_refl [] = refl
join_refl (x ∷ c) = rw (le-leb x x (omega arith)) (ap (λ t. x ∷ t) (join_refl c))

join_tail : (a b z : Clock) → length a ≡ length b → join (a ++ z) (b ++ z) ≡ join a b ++ z
unfolding join
join_tail [] [] z e = join_refl z
join_tail [] (y ∷ b) z e = absurd (omega arith)
join_tail (x ∷ a) [] z e = absurd (omega arith)
join_tail (x ∷ a) (y ∷ b) z e = ap (λ t. cond (leb x y) y x ∷ t) (join_tail a b z (omega arith))

pub join_pad : (n : ℕ) (a b : Clock) → length a ≡ length b → length a ≤ n → join (pad n a) (pad n b) ≡ pad n (join a b)
join_pad n a b e h =
    let lb : length b ≤ n = omega arith in
    let lj : length (join a b) ≤ n = omega (arith, join_length a b) in
    rw (pad_is n a h, pad_is n b lb, pad_is n (join a b) lj, join_length, e) (join_tail a b (replicate (n - length b) 0) e)

sum_zeros : (c : Clock) (n : ℕ) → sum (c ++ replicate n 0) ≡ sum c
unfolding sum
sum_zeros [] zero = refl
sum_zeros [] (suc n) = omega (arith, sum_zeros [] n)
sum_zeros (x ∷ c) n = ap (λ t. x + t) (sum_zeros c n)

pub sum_pad : (n : ℕ) (c : Clock) → length c ≤ n → sum (pad n c) ≡ sum c
sum_pad n c h = ap sum (pad_is n c h) ∙ sum_zeros c (n - length c)

pub tick_pad : (n : ℕ) (c : Clock) (i : ℕ) → length c ≤ n → i < length c → tick (pad n c) i ≡ pad n (tick c i)
tick_pad n c i h l = ap (λ t. set (pad n c) i (suc t)) (get_or_pad n c i h) ∙ pad_set n c i (suc (at c i)) h l

pub small_pad : (n : ℕ) (c : Clock) → length c ≤ n → Small c → Small (pad n c)
small_pad n c h s i = rw (get_or_pad n c i h) (s i)

-- PUTS: of the code's put for a put of the model, the model says the same
pub number_code : (q : Put Body) → Fit q → number (put_of (code_put q)) ≡ number q
number_code q f = ap suc (get_or_pad clock_size q.seen q.from f.seen)

pub later_code : (p q : Put Body) → Fit p → Fit q → later (put_of (code_put p)) (put_of (code_put q)) ≡ later p q
later_code p q f g =
    let s = sum_pad clock_size p.seen f.seen in
    let t = sum_pad clock_size q.seen g.seen in
    ap (λ x. ltb (sum (pad clock_size q.seen)) x || (eqb (sum (pad clock_size q.seen)) x && ltb q.from p.from)) s
    ∙ ap (λ x. ltb x (sum p.seen) || (eqb x (sum p.seen) && ltb q.from p.from)) t

pub had_code : (c : Clock) (q : Put Body) → length c ≤ clock_size → Fit q → had (pad clock_size c) (put_of (code_put q)) ≡ had c q
had_code c q h f = ap (λ x. leb x (at (pad clock_size c) q.from)) (number_code q f) ∙ ap (leb (number q)) (get_or_pad clock_size c q.from h)

pub ready_code : (d e : Delivery Body) (q : Put Body) → e.clock ≡ pad clock_size d.clock → length q.seen ≡ length d.clock → Fit q → ready e (put_of (code_put q)) ≡ ready d q
ready_code d e q ec n f =
    let c : Clock = d.clock in
    let h : length c ≤ clock_size = omega (arith, f.seen) in
    let a : at e.clock q.from ≡ at c q.from = ap (λ x. at x q.from) ec ∙ get_or_pad clock_size c q.from h in
    let b : below (pad clock_size q.seen) e.clock ≡ below q.seen c = ap (below (pad clock_size q.seen)) ec ∙ below_pad clock_size q.seen c n f.seen in
    ap (λ x. eqb x (suc (at e.clock q.from)) && below (pad clock_size q.seen) e.clock) (number_code q f)
    ∙ ap (λ x. eqb (number q) (suc x) && below (pad clock_size q.seen) e.clock) a ∙ ap (λ x. eqb (number q) (suc (at c q.from)) && x) b

-- THE WAY BACK
body_back : (b : Body) → text (key_of b) (value_of b) ≡ b
body_back (text k v) = refl

pub put_back : (n : ℕ) (q : Put Body) → length q.seen ≡ n → Fit q → narrow n (put_of (code_put q)) ≡ q
put_back n q e f =
    let s : take n (pad clock_size q.seen) ≡ q.seen = take_pad clock_size n q.seen e (omega (arith, f.seen)) in
    let v : take (length (value_of q.body)) (pad value_most (value_of q.body)) ≡ value_of q.body = take_pad value_most (length (value_of q.body)) (value_of q.body) refl f.value in
    let b : text (key_of q.body) (take (length (value_of q.body)) (pad value_most (value_of q.body))) ≡ q.body = ap (text (key_of q.body)) v ∙ body_back q.body in
    λ i. record { from = q.from; seen = s i; body = b i }
