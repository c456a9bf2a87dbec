-- A number and its eight bytes.
use Rattle.std.proofs.Common.{◌≡◌, ℕ, zero, suc, ◌+◌, ◌*◌, ◌/◌, ◌%◌, ◌<◌, ◌≤◌, ltb, List, [], ◌∷◌, ◌++◌, length, get_or, take, drop, refl, ap, ◌∙◌, arith}
use Rattle.std.proofs.lemmas.Bool.{ltb-true, lt-ltb, and_parts, and_from}
use Rattle.std.proofs.lemmas.Nat.{div-mul-add, mod-mul-add}
use Rattle.model.specs.Program.{word_bound, all_below}
use Rattle.wire.specs.Bytes.{write_number}
use Rattle.wire.specs.Reading.{number_in}
use Rattle.wire.specs.Theorems.{AllBytes}

pub number_back : (n : ℕ) (s : List ℕ) → n < word_bound → number_in (write_number n ++ s) ≡ n
unfolding number_in
number_back n s h = omega arith

pub first_byte : (x : ℕ) (s : List ℕ) → AllBytes (x ∷ s) → x < 256
unfolding all_below
first_byte x s e = ltb-true x 256 (and_parts (ltb x 256) (all_below 256 s) e).0

pub other_bytes : (x : ℕ) (s : List ℕ) → AllBytes (x ∷ s) → AllBytes s
unfolding all_below
other_bytes x s e = (and_parts (ltb x 256) (all_below 256 s) e).1

-- a list of bytes, by each of its elements
pub bytes_each : (s : List ℕ) → ((i : ℕ) → get_or s i 0 < 256) → AllBytes s
unfolding all_below
bytes_each [] h = refl
bytes_each (x ∷ s) h = and_from (ltb x 256) (all_below 256 s) (lt-ltb x 256 (h 0)) (bytes_each s (λ i. h (suc i)))

pub bytes_drop : (n : ℕ) (s : List ℕ) → AllBytes s → AllBytes (drop n s)
bytes_drop zero s e = e
bytes_drop (suc n) [] e = e
bytes_drop (suc n) (x ∷ s) e = bytes_drop n s (other_bytes x s e)

pub bytes_take : (n : ℕ) (s : List ℕ) → AllBytes s → AllBytes (take n s)
unfolding all_below
bytes_take zero s e = refl
bytes_take (suc n) [] e = refl
bytes_take (suc n) (x ∷ s) e = and_from (ltb x 256) (all_below 256 (take n s)) (lt-ltb x 256 (first_byte x s e)) (bytes_take n s (other_bytes x s e))

digit : (hi w lo d n : ℕ) → n ≡ (hi * 256 + d) * w + lo → lo < w → d < 256 → n / w % 256 ≡ d
digit hi w lo d n e l s = ap (λ m. m / w % 256) e ∙ ap (λ m. m % 256) (div-mul-add (hi * 256 + d) w lo l) ∙ mod-mul-add hi 256 d s

module _ (a b c d e f g h : ℕ) (a< : a < 256) (b< : b < 256) (c< : c < 256) (d< : d < 256) (e< : e < 256) (f< : f < 256) (g< : g < 256) (h< : h < 256) where
  abbrev sum_of : ℕ
  sum_of = a + b * 256 + c * 65536 + d * 16777216 + e * 4294967296 + f * 1099511627776 + g * 281474976710656 + h * 72057594037927936

  digits : write_number sum_of ≡ a ∷ b ∷ c ∷ d ∷ e ∷ f ∷ g ∷ h ∷ []
  digits =
      let ea : sum_of ≡ (b + c * 256 + d * 65536 + e * 16777216 + f * 4294967296 + g * 1099511627776 + h * 281474976710656) * 256 + a = omega arith in
      let pa : sum_of % 256 ≡ a = ap (λ m. m % 256) ea ∙ mod-mul-add (b + c * 256 + d * 65536 + e * 16777216 + f * 4294967296 + g * 1099511627776 + h * 281474976710656) 256 a a< in
      let pb : sum_of / 256 % 256 ≡ b = digit (c + d * 256 + e * 65536 + f * 16777216 + g * 4294967296 + h * 1099511627776) 256 (a) b sum_of (omega arith) (omega arith) b< in
      let pc : sum_of / 65536 % 256 ≡ c = digit (d + e * 256 + f * 65536 + g * 16777216 + h * 4294967296) 65536 (a + b * 256) c sum_of (omega arith) (omega arith) c< in
      let pd : sum_of / 16777216 % 256 ≡ d = digit (e + f * 256 + g * 65536 + h * 16777216) 16777216 (a + b * 256 + c * 65536) d sum_of (omega arith) (omega arith) d< in
      let pe : sum_of / 4294967296 % 256 ≡ e = digit (f + g * 256 + h * 65536) 4294967296 (a + b * 256 + c * 65536 + d * 16777216) e sum_of (omega arith) (omega arith) e< in
      let pf : sum_of / 1099511627776 % 256 ≡ f = digit (g + h * 256) 1099511627776 (a + b * 256 + c * 65536 + d * 16777216 + e * 4294967296) f sum_of (omega arith) (omega arith) f< in
      let pg : sum_of / 281474976710656 % 256 ≡ g = digit (h) 281474976710656 (a + b * 256 + c * 65536 + d * 16777216 + e * 4294967296 + f * 1099511627776) g sum_of (omega arith) (omega arith) g< in
      let ph : sum_of / 72057594037927936 % 256 ≡ h = digit (0) 72057594037927936 (a + b * 256 + c * 65536 + d * 16777216 + e * 4294967296 + f * 1099511627776 + g * 281474976710656) h sum_of (omega arith) (omega arith) h< in
      λ i. pa i ∷ pb i ∷ pc i ∷ pd i ∷ pe i ∷ pf i ∷ pg i ∷ ph i ∷ []

-- eight bytes and more are a number and what follows
pub number_only : (s : List ℕ) → AllBytes s → 8 ≤ length s → (write_number (number_in s) ++ drop 8 s ≡ s) × (number_in s < word_bound)
unfolding number_in
number_only [] k l = absurd (omega arith)
number_only (a ∷ []) k l = absurd (omega arith)
number_only (a ∷ b ∷ []) k l = absurd (omega arith)
number_only (a ∷ b ∷ c ∷ []) k l = absurd (omega arith)
number_only (a ∷ b ∷ c ∷ d ∷ []) k l = absurd (omega arith)
number_only (a ∷ b ∷ c ∷ d ∷ e ∷ []) k l = absurd (omega arith)
number_only (a ∷ b ∷ c ∷ d ∷ e ∷ f ∷ []) k l = absurd (omega arith)
number_only (a ∷ b ∷ c ∷ d ∷ e ∷ f ∷ g ∷ []) k l = absurd (omega arith)
number_only (a ∷ b ∷ c ∷ d ∷ e ∷ f ∷ g ∷ h ∷ t) k l =
    let k1 = other_bytes a _ k in
    let k2 = other_bytes b _ k1 in
    let k3 = other_bytes c _ k2 in
    let k4 = other_bytes d _ k3 in
    let k5 = other_bytes e _ k4 in
    let k6 = other_bytes f _ k5 in
    let k7 = other_bytes g _ k6 in
    let a< = first_byte a _ k in
    let b< = first_byte b _ k1 in
    let c< = first_byte c _ k2 in
    let d< = first_byte d _ k3 in
    let e< = first_byte e _ k4 in
    let f< = first_byte f _ k5 in
    let g< = first_byte g _ k6 in
    let h< = first_byte h _ k7 in
    (ap (λ w. w ++ t) (digits a b c d e f g h a< b< c< d< e< f< g< h<), omega arith)
