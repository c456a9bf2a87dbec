-- Hexadecimal digits: how long they are, and which stands where.
use Rattle.std.proofs.Common.{◌≡◌, ℕ, ◌+◌, ◌-◌, ◌*◌, ◌^◌, ◌%◌, ◌<◌, false, List, [], ◌∷◌, ◌++◌, length, get_or, take, Some, None, Option, sym, refl, ap, ◌∙◌, append-nil, arith, length-append}
use Rattle.std.proofs.lemmas.List.{take_more}
use Rattle.std.proofs.lemmas.Fmt.{hex_byte}
use Rattle.std.specs.Fmt.{digits as hexadecimal, format_spec, padded_integral}
use Rattle.words.specs.Text.{Byte, Bytes, Reads, digits, hex, value_text}

pub length_hex : (bs : List ℕ) → length (hex bs) ≡ 2 * length bs
length_hex [] = refl
length_hex (b ∷ bs) = let e = length_hex bs in omega arith

-- one byte more at the end
pub hex_push : (bs : List ℕ) (b : ℕ) → hex (bs ++ b ∷ []) ≡ hex bs ++ ((digits b).0 ∷ (digits b).1 ∷ [])
hex_push [] b = refl
hex_push (x ∷ bs) b = ap (λ t. (digits x).0 ∷ (digits x).1 ∷ t) (hex_push bs b)

-- behind the digits of some bytes stand those of a byte
pub next_pair : (ms bs rest : List ℕ) (x y : ℕ) → Bytes bs → hex ms ++ (x ∷ y ∷ rest) ≡ hex bs → (b : ℕ) × Byte b × ((x, y) ≡ digits b)
next_pair [] [] rest x y f e = absurd (omega (arith, ap length e))
next_pair [] (b ∷ bs) rest x y f e =
    let high : x ≡ (digits b).0 = cc in
    let low : y ≡ (digits b).1 = cc in
    (b, f.0, λ j. (high j, low j))
next_pair (m ∷ ms) [] rest x y f e = absurd (omega (arith, ap length e))
next_pair (m ∷ ms) (b ∷ bs) rest x y f e = let tail : hex ms ++ (x ∷ y ∷ rest) ≡ hex bs = cc in next_pair ms bs rest x y f.1 tail

-- a slice of two
pub two_of : (xs : List ℕ) → length xs ≡ 2 → xs ≡ get_or xs 0 0 ∷ get_or xs 1 0 ∷ []
two_of [] e = absurd (omega arith)
two_of (x ∷ []) e = absurd (omega arith)
two_of (x ∷ y ∷ []) e = refl
two_of (x ∷ y ∷ z ∷ xs) e = absurd (omega arith)

-- two digits before the others
pub two_before : (ms two rest next all : List ℕ) → hex ms ++ rest ≡ all → rest ≡ two ++ next → length two ≡ 2 → hex ms ++ (get_or two 0 0 ∷ get_or two 1 0 ∷ next) ≡ all
two_before ms two rest next all e f h = ap (λ t. hex ms ++ (t ++ next)) (sym (two_of two h)) ∙ ap (λ t. hex ms ++ t) (sym f) ∙ e

-- all digits are read
pub all_read : (ms rest all : List ℕ) → hex ms ++ rest ≡ all → length all % 2 ≡ 0 → length rest < 2 → all ≡ hex ms
all_read ms [] all e even few = sym e ∙ append-nil (hex ms)
all_read ms (x ∷ []) all e even few = absurd (omega (arith, length-append (hex ms) (x ∷ []), length_hex ms, ap length e))
all_read ms (x ∷ y ∷ rest) all e even few = absurd (omega arith)

none_reads : (w bs : List ℕ) → (w ≡ 45 ∷ [] → ⊥) → Bytes bs → w ≡ value_text bs → Reads hex Bytes w None → ⊥
none_reads w [] dash f e h = dash e
none_reads w (b ∷ bs) dash f e h = h (b ∷ bs) f e

-- a word that is neither empty nor `-` is a value where it is digits
pub value_reads : (w : List ℕ) (o : Option (List ℕ)) → (length w ≡ 0 → ⊥) → (w ≡ 45 ∷ [] → ⊥) → Reads hex Bytes w o → Reads value_text Bytes w o
value_reads w None some dash h = λ bs f e. none_reads w bs dash f e h
value_reads w (Some []) some dash h = absurd (some (ap length h.1))
value_reads w (Some (b ∷ bs)) some dash h = h

pub value_some : (w bs : List ℕ) → w ≡ value_text bs → length w ≡ 0 → ⊥
value_some w [] e z = omega (arith, ap length e)
value_some w (b ∷ bs) e z = omega (arith, ap length e)

pub value_dash : (bs : List ℕ) → length bs ≡ 0 → value_text bs ≡ 45 ∷ []
value_dash [] e = refl
value_dash (b ∷ bs) e = absurd (omega arith)

pub value_hex : (bs : List ℕ) → (length bs ≡ 0 → ⊥) → value_text bs ≡ hex bs
value_hex [] some = absurd (some refl)
value_hex (b ∷ bs) some = refl

-- a byte more, as it is printed
pub hex_next : (bs : List ℕ) (i : ℕ) → i < length bs → get_or bs i 0 < 256 → hex (take i bs) ++ padded_integral (format_spec 32 0 4 2 (2 ^ 64 - 1)) false [] (hexadecimal 16 false (get_or bs i 0)) ≡ hex (take (i + 1) bs)
hex_next bs i h small = ap (λ t. hex (take i bs) ++ t) (hex_byte false (get_or bs i 0) small) ∙ sym (hex_push (take i bs) (get_or bs i 0)) ∙ sym (ap hex (take_more bs i 0 h))
