-- A word is read as a number just where it is what that number is printed as.
use Rattle.std.proofs.Common.{◌≡◌, ℕ, ◌<◌, ◌≤◌, List, length, get_or, Ok, Err, decimal, Result, sym, ap, ◌∙◌, subst, inl, inr, arith}
use Rattle.std.proofs.lemmas.Fmt.{decimal-digits_value, decimal_digit, decimal_nonempty, digits_decimal, first_decimal, digits_value-decimal}
use Rattle.std.proofs.lemmas.Str.Parse.{IsNumeralModel, digit_at, numerals_by_value, parse_plain, tells_digits}
use Rattle.std.proofs.lemmas.Bool.Decides.{eqb_tells}
use Rattle.std.specs.Result.{result_ok}
use Rattle.std.specs.Str.Parse.{AllDigits, ParsesUnsigned, digits_value}
use Rattle.words.specs.Text.{Reads, Word}

pub own : IsNumeralModel (AllDigits 10) (digits_value 10)
own = numerals_by_value (AllDigits 10) tells_digits

-- a printed number begins with a digit, and with 0 only where it is 0
pub no_plus : (bs : List ℕ) → get_or bs 0 0 ≡ 43 → (n : ℕ) → Word n → bs ≡ decimal n → ⊥
no_plus bs plus n small e =
    let first = digit_at (decimal n) 0 (digits_decimal own n small) (decimal_nonempty n small) in
    omega (arith, first.0, ap (λ ds. get_or ds 0 0) e)

pub no_zero : (bs : List ℕ) → get_or bs 0 0 ≡ 48 → 1 < length bs → (n : ℕ) → Word n → bs ≡ decimal n → ⊥
no_zero bs nought long n small e = elim (eqb_tells n 0) [
  | inl t ↦ omega (arith, ap length (e ∙ ap decimal t.1 ∙ decimal_digit 0 (omega arith)))
  | inr t ↦ omega (arith, first_decimal n (omega (arith, t.1)) small, ap (λ ds. get_or ds 0 0) e)
]

pub reads_number : {E : Type 0} (bs : List ℕ) (r : Result ℕ E) → (get_or bs 0 0 ≡ 43 → ⊥) → (get_or bs 0 0 ≡ 48 → length bs ≤ 1) → ParsesUnsigned 64 10 bs r → Reads decimal Word bs (result_ok r)
reads_number {E = E} bs (Ok x) plus nought h =
    let t = parse_plain own {E = E} 64 bs (Ok x) h plus in
    (omega (arith, t.0.2, t.1), sym (ap decimal t.1 ∙ decimal-digits_value own bs t.0.0 t.0.1 (λ z. omega (arith, nought z, t.0.1)) t.0.2))
reads_number bs (Err e) plus nought h = λ n small is.
    let t = parse_plain own 64 bs (Err e) h plus in
    t (subst (AllDigits 10) (sym is) (digits_decimal own n small), omega (arith, decimal_nonempty n small, ap length is), omega (arith, ap (digits_value 10) is ∙ digits_value-decimal own n small))
