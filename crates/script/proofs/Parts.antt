-- What a text in several parts is read as, by what its parts are read as.
use Rattle.std.proofs.Common.{◌≡◌, ℕ, List, ◌∷◌, ◌++◌, Some, None, vec_items, decimal, Option, refl, ◌∙◌, subst, arith}
use Rattle.std.specs.Option.{option_map}
use Rattle.text.specs.Printed.{put_text}
use Rattle.text.specs.Event.{Put}
use Rattle.words.specs.Text.{Bytes, Reads, Word, Words, numbers_text, value_text}
use Rattle.words.proofs.Spaces.{Cut, NoSpace, cut_parts, decimal_no_space, has_space, value_no_space}
use Rattle.script.specs.Events.{CanPut}

-- what was read of a Vec, as none or one
module _ {A V : Type 0} (text : A → List ℕ) (Can : A → Type 0) (w : List ℕ) (items : V → A) where
  pub none_read : (o : Option V) → o ≡ None → Reads text Can w (option_map items o) → Reads text Can w None
  none_read o e h = subst (λ x. Reads text Can w (option_map items x)) e h

  pub one_read : (o : Option V) (v : V) → o ≡ Some v → Reads text Can w (option_map items o) → Reads text Can w (Some (items v))
  one_read o v e h = subst (λ x. Reads text Can w (option_map items x)) e h

-- the same of the Vec itself
pub none_lifted : {A V : Type 0} (text : A → List ℕ) (Can : A → Type 0) (w : List ℕ) (items : V → A) → Reads text Can w None → Reads (λ v. text (items v)) (λ v. Can (items v)) w None
none_lifted text Can w items none v can e = none (items v) can e

module _ {A : Type 0} (text : A → List ℕ) (Can : A → Type 0) (w : List ℕ) where
  pub none_is : (o : Option A) → o ≡ None → Reads text Can w o → Reads text Can w None
  none_is o e h = subst (λ x. Reads text Can w x) e h

-- a number and what follows a space
module _ {B : Type 0} (text : B → List ℕ) (Can : B → Type 0) (all : ℕ × B → List ℕ) (is : (n : ℕ) (b : B) → all (n, b) ≡ decimal n ++ 32 ∷ text b) (w : List ℕ) where
  abbrev Both : ℕ × B → Type 0
  Both x = Word x.0 × Can x.1

  pub pair_uncut : NoSpace w → Reads all Both w None
  pair_uncut s x can e = has_space (decimal x.0) (text x.1) w s (e ∙ is x.0 x.1)

  module _ (word rest : List ℕ) (cut : Cut w word rest) where
    parts : (x : ℕ × B) → Both x → w ≡ all x → (word ≡ decimal x.0) × (rest ≡ text x.1)
    parts x can e = cut_parts w word rest (decimal x.0) (text x.1) cut (decimal_no_space x.0 can.0) (e ∙ is x.0 x.1)

    pub pair_no_first : Reads decimal Word word None → Reads all Both w None
    pair_no_first none x can e = none x.0 can.0 (parts x can e).0

    pub pair_no_rest : Reads text Can rest None → Reads all Both w None
    pair_no_rest none x can e = none x.1 can.1 (parts x can e).1

-- a put: a number, a value, and at least one number, with spaces between
put_rest : Put → List ℕ
put_rest p = value_text (vec_items p.value) ++ 32 ∷ numbers_text (p.from ∷ vec_items p.seen)

put_is : (p : Put) → put_text p ≡ decimal p.key ++ 32 ∷ put_rest p
unfolding put_rest
put_is p = refl

module _ (w : List ℕ) where
  pub put_uncut : NoSpace w → Reads put_text CanPut w None
  put_uncut s p can e = has_space (decimal p.key) (put_rest p) w s (e ∙ put_is p)

  module _ (word rest : List ℕ) (cut : Cut w word rest) where
    put_parts : (p : Put) → CanPut p → w ≡ put_text p → (word ≡ decimal p.key) × (rest ≡ put_rest p)
    put_parts p can e = cut_parts w word rest (decimal p.key) (put_rest p) cut (decimal_no_space p.key can.0) (e ∙ put_is p)

    pub put_no_key : Reads decimal Word word None → Reads put_text CanPut w None
    put_no_key none p can e = none p.key can.0 (put_parts p can e).0

    pub put_no_value_end : NoSpace rest → Reads put_text CanPut w None
    unfolding put_rest
    put_no_value_end s p can e = has_space (value_text (vec_items p.value)) (numbers_text (p.from ∷ vec_items p.seen)) rest s (put_parts p can e).1

    module _ (vword more : List ℕ) (vcut : Cut rest vword more) where
      value_parts : (p : Put) → CanPut p → w ≡ put_text p → (vword ≡ value_text (vec_items p.value)) × (more ≡ numbers_text (p.from ∷ vec_items p.seen))
      unfolding put_rest
      value_parts p can e = cut_parts rest vword more (value_text (vec_items p.value)) (numbers_text (p.from ∷ vec_items p.seen)) vcut (value_no_space (vec_items p.value)) (put_parts p can e).1

      pub put_no_value : Reads value_text Bytes vword None → Reads put_text CanPut w None
      put_no_value none p can e = none (vec_items p.value) can.1 (value_parts p can e).0

      pub put_no_numbers : Reads numbers_text Words more None → Reads put_text CanPut w None
      put_no_numbers none p can e = none (p.from ∷ vec_items p.seen) ((can.2, can.3), omega arith) (value_parts p can e).1
