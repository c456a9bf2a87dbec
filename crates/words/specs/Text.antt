-- The text of numbers and values, and what it is to read one. Definitions only.
use Rattle.std.specs.Prelude.{◌≡◌, ℕ, ◌/◌, ◌%◌, ◌^◌, ◌<◌, List, [], ◌∷◌, ◌++◌, length, Some, None, decimal, Option, ◌≢◌}
use Rattle.std.specs.Char.{digit_char}
use Rattle.std.specs.List.{AllByRecursion, flat_map}

-- w is read as r: it is the text of what was read, and where nothing was read it is the text of nothing that can be
abbrev pub Reads : {A B : Type 0} → (A → B) → (A → Type 0) → B → Option A → Type 0
Reads {A = A} text Can w None = (x : A) → Can x → w ≢ text x
Reads text Can w (Some x) = Can x × (w ≡ text x)

-- what eight bytes hold, what one byte holds, what half a byte holds
abbrev pub Word : ℕ → Type 0
Word n = n < 2 ^ 64

abbrev pub Byte : ℕ → Type 0
Byte b = b < 256

abbrev pub Nibble : ℕ → Type 0
Nibble d = d < 16

abbrev pub Bytes : List ℕ → Type 0
Bytes bs = AllByRecursion Byte bs

-- a byte as two small hexadecimal digits, and each byte of some
abbrev pub digits : ℕ → ℕ × ℕ
digits b = (digit_char (b / 16), digit_char (b % 16))

abbrev pub hex : List ℕ → List ℕ
hex bs = flat_map (λ b. (digits b).0 ∷ (digits b).1 ∷ []) bs

-- a value as text: its digits, or `-` where it has no bytes
abbrev pub value_text : List ℕ → List ℕ
value_text [] = 45 ∷ []
value_text (b ∷ bs) = hex (b ∷ bs)

-- a space and a number, for each of some numbers
abbrev pub counts_text : List ℕ → List ℕ
counts_text ns = flat_map (λ n. 32 ∷ decimal n) ns

-- numbers with one space between two
abbrev pub numbers_text : List ℕ → List ℕ
numbers_text [] = []
numbers_text (n ∷ ns) = decimal n ++ counts_text ns

-- at least one number
abbrev pub Words : List ℕ → Type 0
Words ns = AllByRecursion Word ns × (0 < length ns)
