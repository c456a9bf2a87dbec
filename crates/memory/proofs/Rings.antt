-- The log as a ring of slots.
use Rattle.std.proofs.Common.{◌≡◌, ℕ, zero, suc, ◌+◌, ◌-◌, ◌*◌, ◌/◌, ◌%◌, ◌<◌, ◌≤◌, ◌≢◌, List, [], ◌∷◌, length, get_or, take, set, replicate, sym, refl, ap, ◌∙◌, inl, inr, mod-lt, mul-le-mul_left, mul-suc, arith}
use native.Mathlib.Nat.{div-add-mod}
use Rattle.std.proofs.lemmas.List.{set-set, set_comm, length-set, length-replicate, get_or-set_same, get_or-set_other}
use Rattle.std.proofs.lemmas.Bool.{cases_lt}
use Rattle.model.specs.Put.{Put, Body, number}
use Rattle.puts.specs.Words.{Slot}
use Rattle.memory.specs.Image.{one, ring}
use Rattle.memory.specs.Valid.{Down}

pub ring_length : (n : ℕ) (ps : List (Put Body)) → length (ring n ps) ≡ n
unfolding ring
ring_length n [] = let none : Slot = [] in length-replicate n none
ring_length n (p ∷ ps) = length-set (ring n ps) _ (one p) ∙ ring_length n ps

set_none : (n i : ℕ) → ◌≡◌ {A = List Slot} (set (replicate n []) i []) (replicate n [])
set_none zero i = refl
set_none (suc n) zero = refl
set_none (suc n) (suc i) = ap (λ t. [] ∷ t) (set_none n i)

-- numbers that are less than n apart have other slots
pub slots_differ : (n a b : ℕ) → 0 < n → a < b → b < a + n → b % n ≢ a % n
slots_differ n a b h l u e =
    let x : ℕ = a / n in
    let y : ℕ = b / n in
    let p = div-add-mod a n in
    let q = div-add-mod b n in
    elim (cases_lt x y) [
      | inl t ↦ let m : n * suc x ≤ n * y = mul-le-mul_left n t in omega (arith, mul-suc n x)
      | inr t ↦ let m : n * y ≤ n * x = mul-le-mul_left n t in omega arith
    ]

pub down_length : (me k : ℕ) (ps : List (Put Body)) → Down me k ps → length ps ≤ k
unfolding Down
down_length me k [] d = omega arith
down_length me k (p ∷ ps) d = let r = down_length me (k - 1) ps d.1 in let e = d.0.1 in omega arith

pub down_number : (me k : ℕ) (ps : List (Put Body)) (i : ℕ) (x : Put Body) → Down me k ps → i < length ps → ((get_or ps i x).from ≡ me) × (number (get_or ps i x) ≡ k - i)
unfolding Down
down_number me k [] i x d l = absurd (omega arith)
down_number me k (p ∷ ps) zero x d l = let e = d.0.1 in (d.0.0, omega arith)
down_number me k (p ∷ ps) (suc i) x d l = let r = down_number me (k - 1) ps i x d.1 (omega arith) in let e = r.1 in (r.0, omega arith)

pub down_take : (me k : ℕ) (ps : List (Put Body)) (j : ℕ) → Down me k ps → Down me k (take j ps)
unfolding Down
down_take me k ps zero d = tt
down_take me k [] (suc j) d = tt
down_take me k (p ∷ ps) (suc j) d = (d.0, down_take me (k - 1) ps j d.1)

-- the oldest leaves: its slot is emptied
pub ring_shorter : (n me k : ℕ) (ps : List (Put Body)) (j : ℕ) → Down me k ps → 0 < n → length ps ≤ n → j < length ps → set (ring n (take (suc j) ps)) ((k - j) % n) [] ≡ ring n (take j ps)
unfolding ring Down
ring_shorter n me k [] j d z le lt = absurd (omega arith)
ring_shorter n me k (p ∷ ps) zero d z le lt =
    let e : k - 0 ≡ number p = omega (arith, d.0.1) in
    ap (λ x. set (set (replicate n []) (number p % n) (one p)) (x % n) []) e ∙ set-set (replicate n []) (number p % n) (one p) [] ∙ set_none n (number p % n)
ring_shorter n me k (p ∷ ps) (suc j) d z le lt =
    let l = down_length me (k - 1) ps d.1 in
    let e : k - suc j ≡ (k - 1) - j = omega arith in
    let nk : number p ≡ k = d.0.1 in
    let r : List Slot = ring n (take (suc j) ps) in
    ap (λ x. set (set r (number p % n) (one p)) (x % n) []) e
    ∙ set_comm r (number p % n) (((k - 1) - j) % n) (one p) [] (slots_differ n ((k - 1) - j) (number p) z (omega arith) (omega arith))
    ∙ ap (λ t. set t (number p % n) (one p)) (ring_shorter n me (k - 1) ps j d.1 z (omega arith) (omega arith))

-- each put of the log is found in its slot
pub ring_at : (n me k : ℕ) (ps : List (Put Body)) (i : ℕ) (x : Put Body) → Down me k ps → 0 < n → length ps ≤ n → i < length ps → get_or (ring n ps) ((k - i) % n) [] ≡ one (get_or ps i x)
unfolding ring Down
ring_at n me k [] i x d z le lt = absurd (omega arith)
ring_at n me k (p ∷ ps) zero x d z le lt =
    let e : k - 0 ≡ number p = omega (arith, d.0.1) in
    let m = mod-lt (number p) z in
    ap (λ y. get_or (set (ring n ps) (number p % n) (one p)) (y % n) []) e ∙ get_or-set_same (ring n ps) (number p % n) (one p) [] (omega (arith, ring_length n ps))
ring_at n me k (p ∷ ps) (suc i) x d z le lt =
    let l = down_length me (k - 1) ps d.1 in
    let e : k - suc i ≡ (k - 1) - i = omega arith in
    let nk : number p ≡ k = d.0.1 in
    ap (λ y. get_or (set (ring n ps) (number p % n) (one p)) (y % n) []) e
    ∙ get_or-set_other (ring n ps) (number p % n) (((k - 1) - i) % n) (one p) [] (λ q. slots_differ n ((k - 1) - i) (number p) z (omega arith) (omega arith) (sym q))
    ∙ ring_at n me (k - 1) ps i x d.1 z (omega arith) (omega arith)
