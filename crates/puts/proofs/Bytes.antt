-- Bytes in words of eight bytes.
use Rattle.std.proofs.Common.{◌≡◌, ℕ, zero, suc, ◌+◌, ◌*◌, ◌/◌, ◌%◌, ◌^◌, ◌<◌, ◌≤◌, List, [], ◌∷◌, ◌++◌, length, get_or, take, drop, w64, inl, inr, sym, refl, ap, ◌∙◌, subst, arith, rules}
use Rattle.std.specs.List.{flat_map}
use Rattle.std.proofs.lemmas.List.FromFn.{get_or-map-range_with_len, length-map-range_with_len}
use borrow.Rule.Slice.PartMut.{put_mid}
use Rattle.std.proofs.lemmas.List.Concat.{flat_map-append}
use Rattle.std.proofs.lemmas.List.{ext_get_or, take_more, take_all, places, get_or-take, get_or-drop, get_or_past, length-take, drop-drop}
use Rattle.std.proofs.lemmas.Bool.{cases_lt}
use Rattle.std.specs.Simd.{first_chunks}
use Rattle.std.proofs.lemmas.Slice.{take-put_mid}
use Rattle.std.proofs.lemmas.Nat.{le_bytes_8}
use Rattle.std.specs.Int.{from_le_bytes}
use Rattle.std.specs.Array.{IsFromFnResultFrom}
use Rattle.std.specs.Fn.{Called}
use denote.Param.Members.{Mut}
use Rattle.puts.specs.Values.{Bytes}
use Rattle.puts.specs.Words.{eight_of, word, pack_at, packed, unpacked, value_words}
use Rattle.puts.proofs.Blocks.{joined_at, joined_length}

-- one turn of the loop that takes words apart
pub unpack_more : (ws bs e : List ℕ) (k n : ℕ) → k < length ws → length bs ≡ 64 → 8 * k + 8 ≤ 64 → n ≡ 8 → e ≡ eight_of (get_or ws k 0) → take (8 * k) bs ≡ flat_map eight_of (take k ws) →
    (length (put_mid (8 * k) n bs e) ≡ 64) × (take (8 * (k + 1)) (put_mid (8 * k) n bs e) ≡ flat_map eight_of (take (k + 1) ws))
unpack_more ws bs e k n l lb h en ee t =
    let le : length e ≡ 8 = ap length ee in
    let x : take (8 * (k + 1)) (put_mid (8 * k) n bs e) ≡ take (8 * k) bs ++ e = take-put_mid (8 * k) n bs e (8 * (k + 1)) (omega arith) (omega arith) in
    let y : flat_map eight_of (take (k + 1) ws) ≡ flat_map eight_of (take k ws) ++ (eight_of (get_or ws k 0) ++ []) = ap (flat_map eight_of) (take_more ws k 0 l) ∙ flat_map-append eight_of (take k ws) (get_or ws k 0 ∷ []) in
    (search (rules, places), x ∙ ap (λ z. z ++ e) t ∙ ap (λ z. flat_map eight_of (take k ws) ++ z) ee ∙ sym y)

pub unpack_all : (ws bs : List ℕ) (k : ℕ) → k ≡ 8 → length ws ≡ 8 → length bs ≡ 64 → take (8 * k) bs ≡ flat_map eight_of (take k ws) → bs ≡ unpacked ws
unfolding unpacked
unpack_all ws bs k ek lw lb e = sym (take_all (8 * k) bs (omega arith)) ∙ e ∙ ap (flat_map eight_of) (take_all k ws (omega arith))

-- what a pure closure makes of each index from i on
pub made_at : {F : Type 0} (g : Mut F (ℕ × Unit {0}) ℕ) (f : ℕ → ℕ) (p : F) (ys : List ℕ) (n i : ℕ) → ((k y : ℕ) (q : F) → k < i + n → Called g p (k, tt) y q → (q ≡ p) × (y ≡ f k)) → IsFromFnResultFrom g p ys i n → (k : ℕ) → i ≤ k → k < i + n → get_or ys k 0 ≡ f k
made_at g f p ys zero i h m k l u = absurd (omega arith)
made_at {F} g f p ys (suc n) i h m k l u =
    let e = h i m.1 m.0 (omega arith) m.3 in
    let P : F → Type 0 = λ q. IsFromFnResultFrom g q ys (i + 1) n in
    elim (cases_lt i k) [
      | inl t ↦ made_at g f p ys n (i + 1) (λ k y q l. h k y q (omega arith)) (subst P e.0 m.4) k (omega arith) (omega arith)
      | inr t ↦ let at_i : k ≡ i = omega arith in ap (λ j. get_or ys j 0) at_i ∙ m.2.1 0 ∙ e.1 ∙ ap f (sym at_i)
    ]

eight_at : (bs : List ℕ) (i j k : ℕ) → j < 8 → i + j ≡ k → get_or (take 8 (drop i bs)) j 0 ≡ get_or bs k 0
eight_at bs i j k h e = get_or-take 8 (drop i bs) j 0 h ∙ get_or-drop i bs j 0 ∙ ap (λ x. get_or bs x 0) e

pub word_is : (bs : List ℕ) (i : ℕ) → word bs i ≡ from_le_bytes w64 (take 8 (drop i bs))
word_is bs i =
    let a = eight_at bs i 0 i (omega arith) (omega arith) in
    let b = eight_at bs i 1 (i + 1) (omega arith) refl in
    let c = eight_at bs i 2 (i + 2) (omega arith) refl in
    let d = eight_at bs i 3 (i + 3) (omega arith) refl in
    let e = eight_at bs i 4 (i + 4) (omega arith) refl in
    let f = eight_at bs i 5 (i + 5) (omega arith) refl in
    let g = eight_at bs i 6 (i + 6) (omega arith) refl in
    let h = eight_at bs i 7 (i + 7) (omega arith) refl in
    omega arith

part_below : (bs : List ℕ) (n i : ℕ) → Bytes bs → Bytes (take n (drop i bs))
part_below bs n i fits j =
    elim (cases_lt j n) [
      | inl t ↦ rw (get_or-take n (drop i bs) j 0 t, get_or-drop i bs j 0) (fits (i + j))
      | inr t ↦ rw (get_or_past (take n (drop i bs)) j 0 (omega (arith, length-take n (drop i bs)))) (omega arith)
    ]

eight_back : (bs : List ℕ) (i : ℕ) → i + 8 ≤ length bs → Bytes bs → eight_of (word bs i) ≡ take 8 (drop i bs)
eight_back bs i l fits = le_bytes_8 (take 8 (drop i bs)) (word bs i) (search (rules, places)) (part_below bs 8 i fits) (word_is bs i)

pub chunk_is : (bs : List ℕ) (n k : ℕ) → k < n → get_or (first_chunks 8 n bs) k [] ≡ take 8 (drop (8 * k) bs)
chunk_is bs zero k h = absurd (omega arith)
chunk_is bs (suc n) zero h = refl
chunk_is bs (suc n) (suc k) h =
    let e : 8 + 8 * k ≡ 8 * suc k = omega arith in
    chunk_is (drop 8 bs) n k (omega arith) ∙ ap (take 8) (drop-drop (8 * k) 8 bs ∙ ap (λ x. drop x bs) e)

pub packed_length : (bs : List ℕ) → length (packed bs) ≡ value_words
unfolding packed
packed_length bs = length-map-range_with_len (pack_at bs) 0 value_words

packed_at : (bs : List ℕ) (k : ℕ) → k < 8 → get_or (packed bs) k 0 ≡ word bs (8 * k)
unfolding packed pack_at
packed_at bs k h = get_or-map-range_with_len (pack_at bs) 0 8 k k 0 h (omega arith)

-- bytes that were packed are unpacked as they were
pub unpacked_packed : (bs : List ℕ) → length bs ≡ 64 → Bytes bs → unpacked (packed bs) ≡ bs
unfolding unpacked
unpacked_packed bs l fits =
    let ws : List ℕ = packed bs in
    let lw = packed_length bs in
    let lj = joined_length eight_of 8 (λ _. refl) ws in
    ext_get_or 0 (flat_map eight_of ws) bs (omega arith)
    (λ i h.
    let k : ℕ = i / 8 in
    let j : ℕ = i % 8 in
    let lk : k < 8 = omega arith in
    let lj : j < 8 = omega arith in
    let at_i : 8 * k + j ≡ i = omega arith in
    ap (λ x. get_or (flat_map eight_of ws) x 0) (sym at_i) ∙ joined_at eight_of 8 (λ _. refl) ws k j 0 0 (omega arith) lj
    ∙ ap (λ x. get_or (eight_of x) j 0) (packed_at bs k lk) ∙ ap (λ x. get_or x j 0) (eight_back bs (8 * k) (omega arith) fits) ∙ eight_at bs (8 * k) j i lj at_i)

word_below : (a b c d e f g h : ℕ) → a < 256 → b < 256 → c < 256 → d < 256 → e < 256 → f < 256 → g < 256 → h < 256 →
    a + b * 256 + c * 65536 + d * 16777216 + e * 4294967296 + f * 1099511627776 + g * 281474976710656 + h * 72057594037927936 < 2 ^ 64
word_below a b c d e f g h la lb lc ld le lf lg lh = omega arith

-- each word of packed bytes fits
pub packed_below : (bs : List ℕ) → Bytes bs → (k : ℕ) → k < length (packed bs) → get_or (packed bs) k 0 < 2 ^ 64
packed_below bs fits k h =
    let lk : k < 8 = omega (arith, packed_length bs) in
    rw (packed_at bs k lk)
    (word_below _ _ _ _ _ _ _ _ (fits (8 * k)) (fits (8 * k + 1)) (fits (8 * k + 2)) (fits (8 * k + 3)) (fits (8 * k + 4)) (fits (8 * k + 5)) (fits (8 * k + 6)) (fits (8 * k + 7)))
