-- Texts with one space between two words: where the first word ends.
use Rattle.std.proofs.Common.{◌≡◌, ℕ, ◌/◌, ◌%◌, ◌<◌, List, [], ◌∷◌, ◌++◌, length, get_or, map, eqb, false, rules, All, Some, None, decimal, sym, refl, ap, ◌∙◌, append-nil, arith, Bor}
use lib.ListN.{length-map}
use Rattle.std.proofs.lemmas.Fmt.{digits_decimal, decimal_injective}
use Rattle.std.proofs.ByRecursion.{All-from_get_or, All-get_or, All-weaker}
use Rattle.std.proofs.lemmas.List.{get_or-map}
use Rattle.std.proofs.lemmas.List.Elements.{All-from_recursion}
use Rattle.std.proofs.lemmas.List.Splits.{join_with_byte-slice_split, length-slice_split, slice_split_at, slice_split_none}
use Rattle.std.proofs.lemmas.Str.Parse.{digit_at}
use Rattle.std.proofs.lemmas.Str.Pattern.{IsSplitOnceResult, split_parts}
use Rattle.std.proofs.lemmas.Bool.Decides.{nat_tests}
use Rattle.std.specs.Char.{digit_char}
use Rattle.std.specs.List.{AllByRecursion, join_with_byte, slice_split}
use Rattle.words.specs.Text.{Reads, Word, Words, hex, numbers_text, value_text}
use Rattle.words.proofs.Decimals.{own}

-- no byte is a space
abbrev pub NoSpace : List ℕ → Type 0
NoSpace bs = AllByRecursion (λ b. b ≡ 32 → ⊥) bs

pub no_space : (bs : List ℕ) → ((i : ℕ) → i < length bs → get_or bs i 0 ≡ 32 → ⊥) → NoSpace bs
no_space bs h = All-from_get_or (λ b. b ≡ 32 → ⊥) bs 0 h

pub decimal_no_space : (n : ℕ) → Word n → NoSpace (decimal n)
decimal_no_space n small = no_space (decimal n) (λ i h e. omega (arith, (digit_at (decimal n) i (digits_decimal own n small) h).0, e))

digit_no_space : (d : ℕ) → digit_char d ≡ 32 → ⊥
digit_no_space d e = let z : ◌≡◌ {A = ℕ} 0 1 = grind (arith, nat_tests) in omega arith

hex_no_space : (bs : List ℕ) → NoSpace (hex bs)
hex_no_space [] = tt
hex_no_space (b ∷ bs) = (digit_no_space (b / 16), (digit_no_space (b % 16), hex_no_space bs))

pub value_no_space : (bs : List ℕ) → NoSpace (value_text bs)
value_no_space [] = (λ e. omega (arith, e), tt)
value_no_space (b ∷ bs) = hex_no_space (b ∷ bs)

-- the first word and the rest are told by the text
pub first_space : (xs ys us vs : List ℕ) → NoSpace xs → NoSpace ys → xs ++ 32 ∷ us ≡ ys ++ 32 ∷ vs → (xs ≡ ys) × (us ≡ vs)
first_space [] [] us vs a b e = (refl, cc)
first_space [] (y ∷ ys) us vs a b e = let z : y ≡ 32 = cc in absurd (b.0 z)
first_space (x ∷ xs) [] us vs a b e = let z : x ≡ 32 = cc in absurd (a.0 z)
first_space (x ∷ xs) (y ∷ ys) us vs a b e =
    let head : x ≡ y = cc in
    let tail : xs ++ 32 ∷ us ≡ ys ++ 32 ∷ vs = cc in
    let more = first_space xs ys us vs a.1 b.1 tail in
    ((λ i. head i ∷ more.0 i), more.1)

-- a text with a space is no single word
pub has_space : (xs us ws : List ℕ) → NoSpace ws → ws ≡ xs ++ 32 ∷ us → ⊥
has_space [] us [] a e = omega (arith, ap length e)
has_space [] us (w ∷ ws) a e = let z : w ≡ 32 = cc in a.0 z
has_space (x ∷ xs) us [] a e = omega (arith, ap length e)
has_space (x ∷ xs) us (w ∷ ws) a e = let tail : ws ≡ xs ++ 32 ∷ us = cc in has_space xs us ws a.1 tail

-- a text that is cut at its first space
pub record Cut (text word rest : List ℕ) : Type 0 where
  pub whole : text ≡ word ++ 32 ∷ rest
  pub first : NoSpace word

pub cut_at : (text : List ℕ) (word rest : Bor (List ℕ)) → IsSplitOnceResult 32 text (Some (word, rest)) → Cut text word.now rest.now
cut_at text word rest h =
    let parts = split_parts 32 text (Some (word, rest)) h (omega arith) in
    record { whole = parts.0; first = no_space word.now parts.1 }

pub uncut : (text : List ℕ) → IsSplitOnceResult 32 text None → NoSpace text
uncut text h = no_space text (split_parts 32 text None h (omega arith))

-- its parts are told by the text
pub cut_parts : (text word rest xs ys : List ℕ) → Cut text word rest → NoSpace xs → text ≡ xs ++ 32 ∷ ys → (word ≡ xs) × (rest ≡ ys)
cut_parts text word rest xs ys c a e = first_space word xs rest ys c.first a (sym c.whole ∙ e)

-- the words of a text
abbrev pub words : List ℕ → List (List ℕ)
words text = slice_split (λ b. eqb b 32) text

no_cut : (bs : List ℕ) → NoSpace bs → All (λ b. eqb b 32 ≡ false) bs
no_cut bs h = All-from_recursion (λ b. eqb b 32 ≡ false) bs (All-weaker (λ b. b ≡ 32 → ⊥) (λ b. eqb b 32 ≡ false) (λ b no. search (rules, nat_tests)) bs h)

-- those of numbers are their digits
pub words_of : (ns : List ℕ) → Words ns → words (numbers_text ns) ≡ map decimal ns
words_of [] w = absurd (omega (arith, w.1))
words_of (n ∷ []) w = ap words (append-nil (decimal n)) ∙ slice_split_none (λ b. eqb b 32) (decimal n) (no_cut (decimal n) (decimal_no_space n w.0.0))
words_of (n ∷ k ∷ ns) w =
    slice_split_at (λ b. eqb b 32) (decimal n) 32 (numbers_text (k ∷ ns)) (no_cut (decimal n) (decimal_no_space n w.0.0)) refl
    ∙ ap (λ t. decimal n ∷ t) (words_of (k ∷ ns) (w.0.1, omega arith))

joined : (ns : List ℕ) → join_with_byte 32 (map decimal ns) ≡ numbers_text ns
joined [] = refl
joined (n ∷ []) = sym (append-nil (decimal n))
joined (n ∷ k ∷ ns) = ap (λ t. decimal n ++ 32 ∷ t) (joined (k ∷ ns))

-- numbers are told by their text
same_digits : (ns ms : List ℕ) → AllByRecursion Word ns → AllByRecursion Word ms → map decimal ns ≡ map decimal ms → ns ≡ ms
same_digits [] [] a b e = refl
same_digits [] (m ∷ ms) a b e = absurd (omega (arith, ap length e))
same_digits (n ∷ ns) [] a b e = absurd (omega (arith, ap length e))
same_digits (n ∷ ns) (m ∷ ms) a b e =
    let first : decimal n ≡ decimal m = cc in
    let rest : map decimal ns ≡ map decimal ms = cc in
    let head = decimal_injective n m a.0 b.0 first in
    let tail = same_digits ns ms a.1 b.1 rest in
    λ i. head i ∷ tail i

pub numbers_same : (ns ms : List ℕ) → Words ns → Words ms → numbers_text ns ≡ numbers_text ms → ns ≡ ms
numbers_same ns ms a b e = same_digits ns ms a.0 b.0 (sym (words_of ns a) ∙ ap words e ∙ words_of ms b)

-- a text with a word that is no number
pub no_number : (text word : List ℕ) (i : ℕ) → i < length (words text) → word ≡ get_or (words text) i word → Reads decimal Word word None → Reads numbers_text Words text None
no_number text word i h at none = λ ns w e.
    let split : words text ≡ map decimal ns = ap words e ∙ words_of ns w in
    let few : i < length ns = omega (arith, length-map ns decimal, ap length split) in
    none (get_or ns i 0) (All-get_or Word ns i 0 few w.0) (at ∙ ap (λ ws. get_or ws i word) split ∙ get_or-map decimal ns i 0 word few)

-- a text whose words are all numbers
pub all_numbers : (text : List ℕ) (ns : List ℕ) → AllByRecursion Word ns → map decimal ns ≡ words text → Reads numbers_text Words text (Some ns)
all_numbers text ns a e =
    let some : 0 < length ns = omega (arith, length-map ns decimal, ap length e, length-slice_split (λ b. eqb b 32) text) in
    ((a, some), sym (join_with_byte-slice_split 32 text) ∙ ap (join_with_byte 32) (sym e) ∙ joined ns)
