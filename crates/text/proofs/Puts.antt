-- The text of several puts, by its last.
use Rattle.std.proofs.Common.{◌≡◌, ℕ, ◌+◌, ◌<◌, List, [], ◌∷◌, ◌++◌, length, get_or, take, codes, sym, refl, ap, ◌∙◌, append_assoc, add-one, append-nil}
use Rattle.std.proofs.lemmas.Grind.{flat_map-append}
use Rattle.std.proofs.lemmas.List.{take_more}
use Rattle.text.specs.Event.{Put}
use Rattle.text.specs.Printed.{put_text, puts_text}

-- the text that stands before each put but the first, and that put
abbrev next : Put → List ℕ
next p = codes " ; " ++ put_text p

front : (ps : List Put) (p : Put) (i : ℕ) → take (i + 1) (p ∷ ps) ≡ p ∷ take i ps
front ps p i = rw (add-one i) refl

last : (ps : List Put) (p q : Put) → puts_text (p ∷ ps) ++ next q ≡ puts_text (p ∷ (ps ++ q ∷ []))
last ps p q = simp (append_assoc, flat_map-append, append-nil) refl

-- a put more behind the first ones
pub puts_more : (all rest : List Put) (p q : Put) (i : ℕ) → all ≡ p ∷ rest → i < length rest → q ≡ get_or rest i q → puts_text (take (i + 1) all) ++ (codes " ; " ++ put_text q) ≡ puts_text (take (i + 1 + 1) all)
puts_more all rest p q i e h k =
    ap (λ ps. puts_text (take (i + 1) ps) ++ next q) e ∙ ap (λ ps. puts_text ps ++ next q) (front rest p i) ∙ last (take i rest) p q
    ∙ ap (λ x. puts_text (p ∷ (take i rest ++ x ∷ []))) k ∙ ap (λ ps. puts_text (p ∷ ps)) (sym (take_more rest i q h))
    ∙ sym (ap (λ ps. puts_text (take (i + 1 + 1) ps)) e ∙ ap puts_text (front rest p (i + 1)))
