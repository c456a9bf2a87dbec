-- The digits of some bytes.
use Rattle.std.proofs.Common.{◌≡◌, ℕ, zero, suc, ◌/◌, ◌%◌, ◌<◌, List, [], ◌∷◌, ◌++◌, get_or, sym, ap, ◌∙◌, append_assoc, arith}
use Rattle.std.proofs.lemmas.Bool.Decides.{nat_tests}
use Rattle.std.proofs.lemmas.Grind.{flat_map-append}
use Rattle.std.proofs.lemmas.Str.{IsUtf8-from_ascii}
use Rattle.std.specs.Char.{digit_char}
use Rattle.std.specs.Str.{IsAscii, IsUtf8}
use Rattle.words.specs.Text.{digits, hex}

digit_ascii : (d : ℕ) → d < 16 → digit_char d < 128
digit_ascii d h = grind (arith, nat_tests)

ascii : (bs : List ℕ) → ((i : ℕ) → get_or bs i 0 < 256) → IsAscii (hex bs)
ascii [] small i = omega arith
ascii (b ∷ bs) small zero = digit_ascii (b / 16) (let k = small 0 in omega arith)
ascii (b ∷ bs) small (suc zero) = digit_ascii (b % 16) (omega arith)
ascii (b ∷ bs) small (suc (suc i)) = ascii bs (λ j. small (suc j)) i

-- they are text
pub hex_utf8 : (bs : List ℕ) → ((i : ℕ) → get_or bs i 0 < 256) → IsUtf8 (hex bs)
hex_utf8 bs small = IsUtf8-from_ascii (hex bs) (ascii bs small)

-- those of a chunk more
pub chunk_more : (done text all chunk rest whole : List ℕ) → all ≡ chunk ++ rest → text ≡ hex chunk → done ++ hex all ≡ whole → (done ++ text) ++ hex rest ≡ whole
chunk_more done text all chunk rest whole parts is before =
    append_assoc done text (hex rest) ∙ ap (λ t. done ++ (t ++ hex rest)) is
    ∙ ap (λ t. done ++ t) (sym (ap hex parts ∙ flat_map-append (λ b. (digits b).0 ∷ (digits b).1 ∷ []) chunk rest)) ∙ before
