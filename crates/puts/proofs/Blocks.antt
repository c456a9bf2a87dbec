-- Lists made of parts of one length: reading a part, writing one, and one element of a part.
use Rattle.std.proofs.Common.{◌≡◌, ℕ, zero, suc, ◌+◌, ◌-◌, ◌*◌, ◌<◌, ◌≤◌, List, [], ◌∷◌, ◌++◌, length, get_or, take, drop, set, replicate, sym, ap, ◌∙◌, mul-suc, arith}
use borrow.Rule.Slice.PartMut.{put_mid}
use Rattle.std.specs.List.{flat_map}
use Rattle.std.proofs.Math.Seq.{take-append-add}
use Rattle.std.proofs.lemmas.List.Concat.{get_or-flat_map}
use Rattle.std.proofs.lemmas.List.{length-take-le, drop-drop, drop_at, take_at, append_assoc, length-append, take-append-le, drop-append-le, length-drop, set-append_left, set-append_right, replicate-append-replicate}

pub drop_after : {A : Type 0} (p xs : List A) (n a : ℕ) → length p ≡ n → drop (n + a) (p ++ xs) ≡ drop a xs
drop_after p xs n a e = sym (drop-drop a n (p ++ xs)) ∙ ap (drop a) (drop_at p xs n e)

-- a part behind another
pub mid_after : {A : Type 0} (p xs ys : List A) (n a k : ℕ) → length p ≡ n → put_mid (n + a) k (p ++ xs) ys ≡ p ++ put_mid a k xs ys
mid_after p xs ys n a k e =
    ap (λ t. t ++ (ys ++ drop k (drop (n + a) (p ++ xs)))) (ap (λ m. take (m + a) (p ++ xs)) (sym e) ∙ take-append-add p xs a)
    ∙ ap (λ t. (p ++ take a xs) ++ (ys ++ drop k t)) (drop_after p xs n a e)
    ∙ append_assoc p (take a xs) (ys ++ drop k (drop a xs))

-- a part before another
pub read_left : {A : Type 0} (xs ys : List A) (a n : ℕ) → a + n ≤ length xs → take n (drop a (xs ++ ys)) ≡ take n (drop a xs)
read_left xs ys a n h = ap (take n) (drop-append-le a xs ys (omega arith)) ∙ take-append-le n (drop a xs) ys (omega (arith, length-drop a xs))

pub write_left : {A : Type 0} (xs ys w : List A) (a n : ℕ) → a + n ≤ length xs → put_mid a n (xs ++ ys) w ≡ put_mid a n xs w ++ ys
write_left xs ys w a n h =
    let t : take a (xs ++ ys) ≡ take a xs = take-append-le a xs ys (omega arith) in
    let d : drop n (drop a (xs ++ ys)) ≡ drop n (drop a xs) ++ ys = drop-drop n a (xs ++ ys) ∙ drop-append-le (a + n) xs ys (omega arith) ∙ ap (λ z. z ++ ys) (sym (drop-drop n a xs)) in
    ap (λ z. z ++ (w ++ drop n (drop a (xs ++ ys)))) t ∙ ap (λ z. take a xs ++ (w ++ z)) d
    ∙ ap (λ z. take a xs ++ z) (sym (append_assoc w (drop n (drop a xs)) ys)) ∙ sym (append_assoc (take a xs) (w ++ drop n (drop a xs)) ys)

pub joined_zeros : {X : Type 0} (f : X → List ℕ) (w : ℕ) (y : X) → f y ≡ replicate w 0 → (n : ℕ) → flat_map f (replicate n y) ≡ replicate (w * n) 0
joined_zeros f w y e zero = let z : w * 0 ≡ 0 = omega arith in sym (ap (λ k. replicate k 0) z)
joined_zeros f w y e (suc n) =
    let z : ℕ = 0 in
    let m : w + w * n ≡ w * suc n = omega (arith, mul-suc w n) in
    ap (λ t. t ++ flat_map f (replicate n y)) e ∙ ap (λ t. replicate w z ++ t) (joined_zeros f w y e n) ∙ replicate-append-replicate w (w * n) z ∙ ap (λ k. replicate k z) m

module _ {X A : Type 0} (f : X → List A) (w : ℕ) (h : (x : X) → length (f x) ≡ w) where
  pub joined_length : (xs : List X) → length (flat_map f xs) ≡ w * length xs
  joined_length [] = omega arith
  joined_length (x ∷ xs) = length-append (f x) (flat_map f xs) ∙ omega (arith, h x, joined_length xs, mul-suc w (length xs))

  pub joined_read : (xs : List X) (k : ℕ) (d : X) → k < length xs → take w (drop (w * k) (flat_map f xs)) ≡ f (get_or xs k d)
  joined_read [] k d l = absurd (omega arith)
  joined_read (x ∷ xs) zero d l =
      let z : w * 0 ≡ 0 = omega arith in
      ap (λ m. take w (drop m (f x ++ flat_map f xs))) z ∙ take_at (f x) (flat_map f xs) w (h x)
  joined_read (x ∷ xs) (suc k) d l =
      let z : w * suc k ≡ w + w * k = omega (arith, mul-suc w k) in
      ap (λ m. take w (drop m (f x ++ flat_map f xs))) z ∙ ap (take w) (drop_after (f x) (flat_map f xs) w (w * k) (h x)) ∙ joined_read xs k d (omega arith)

  pub joined_write : (xs : List X) (k : ℕ) (y : X) → k < length xs → put_mid (w * k) w (flat_map f xs) (f y) ≡ flat_map f (set xs k y)
  joined_write [] k y l = absurd (omega arith)
  joined_write (x ∷ xs) zero y l =
      let z : w * 0 ≡ 0 = omega arith in
      ap (λ m. put_mid m w (f x ++ flat_map f xs) (f y)) z ∙ ap (λ t. f y ++ t) (drop_at (f x) (flat_map f xs) w (h x))
  joined_write (x ∷ xs) (suc k) y l =
      let z : w * suc k ≡ w + w * k = omega (arith, mul-suc w k) in
      ap (λ m. put_mid m w (f x ++ flat_map f xs) (f y)) z ∙ mid_after (f x) (flat_map f xs) (f y) w (w * k) w (h x) ∙ ap (λ t. f x ++ t) (joined_write xs k y (omega arith))

  pub joined_at : (xs : List X) (k i : ℕ) (d : X) (z : A) → k < length xs → i < w → get_or (flat_map f xs) (w * k + i) z ≡ get_or (f (get_or xs k d)) i z
  joined_at xs k i d z l b =
      let n : length (flat_map f (take k xs)) ≡ w * k = joined_length (take k xs) ∙ ap (λ m. w * m) (length-take-le k xs (omega arith)) in
      ap (λ m. get_or (flat_map f xs) (m + i) z) (sym n) ∙ get_or-flat_map f xs k i d z l (omega (arith, h (get_or xs k d)))

  pub joined_set : (xs : List X) (k i : ℕ) (d y : X) (v : A) → k < length xs → i < w → set (f (get_or xs k d)) i v ≡ f y → set (flat_map f xs) (w * k + i) v ≡ flat_map f (set xs k y)
  joined_set [] k i d y v l b e = absurd (omega arith)
  joined_set (x ∷ xs) zero i d y v l b e =
      let z : w * 0 + i ≡ i = omega arith in
      ap (λ t. set (f x ++ flat_map f xs) t v) z ∙ set-append_left (f x) (flat_map f xs) i v (omega (arith, h x)) ∙ ap (λ t. t ++ flat_map f xs) e
  joined_set (x ∷ xs) (suc k) i d y v l b e =
      let z : (w * suc k + i) - w ≡ w * k + i = omega (arith, mul-suc w k) in
      set-append_right (f x) (flat_map f xs) w (w * suc k + i) v (h x) (omega (arith, mul-suc w k)) ∙ ap (λ t. f x ++ set (flat_map f xs) t v) z ∙ ap (λ t. f x ++ t) (joined_set xs k i d y v (omega arith) b e)
