-- What a text is read as, by its first word.
use Rattle.std.proofs.Common.{◌≡◌, ℕ, Bool, true, false, not, ◌&&◌, eqb, List, [], ◌∷◌, get_or, vec_items, codes, decimal, Vec, sym, refl, ap, ◌∙◌, arith, eq-eqb}
use borrow.Author.Tests.{clash}
use Rattle.std.proofs.lemmas.Fmt.{decimal_nonempty, digits_decimal}
use Rattle.std.proofs.lemmas.Slice.Eq.{bytes_eq-Decides}
use Rattle.std.proofs.lemmas.Str.Parse.{digit_at}
use Rattle.std.specs.declared.alloc.Global.{Global}
use Rattle.std.specs.Str.{bytes_eq}
use Rattle.text.specs.Printed.{event_words, put_text}
use Rattle.text.specs.Event.{Event, Put}
use Rattle.puts.specs.declared.event.Event.TheVariants.{Put as Put', Get, Came, Has, Tell}
use Rattle.words.specs.Text.{Bytes, Word, numbers_text, value_text}
use Rattle.words.proofs.Decimals.{own}
use Rattle.words.proofs.Spaces.{Cut, NoSpace, cut_parts, decimal_no_space, has_space}
use Rattle.script.specs.Commands.{CanCommand, CanDeed, CanLimits, command_text, deed_words, limits_text}
use Rattle.script.specs.Events.{CanEvent, CanPut, CanTwo, keyed, two_text}
use Rattle.script.specs.declared.Command.{Command}
use Rattle.script.specs.declared.Command.TheVariants.{Open, At, Round}
use Rattle.script.specs.declared.Deed.{Deed}
use Rattle.script.specs.declared.Deed.TheVariants.{Event as Event', Bytes as Bytes', From, Asks}
use Rattle.memory.specs.declared.Limits.{Limits}

-- words that are written out
unfoldable pub spaceless : List ℕ → Bool
spaceless [] = true
spaceless (b ∷ bs) = not (eqb b 32) && spaceless bs

both : (a b : Bool) → (not a && b) ≡ true → (a ≡ false) × (b ≡ true)
both true b h = absurd (clash h)
both false b h = (refl, h)

pub word_of : (bs : List ℕ) → spaceless bs ≡ true → NoSpace bs
unfolding spaceless
word_of [] h = tt
word_of (b ∷ bs) h = let t = both (eqb b 32) (spaceless bs) h in (λ e. clash (sym t.0 ∙ eq-eqb b 32 e), word_of bs t.1)

pub other_word : (w a b : List ℕ) → bytes_eq a b ≡ false → w ≡ a → w ≡ b → ⊥
other_word w a b h p q = clash (sym h ∙ (bytes_eq-Decides a b).1 (sym p ∙ q))

-- EVENTS, without their replica
module _ (text verb rest : List ℕ) (cut : Cut text verb rest) where
  -- no event, if none has this verb and this rest
  pub event_none :
      ((k : ℕ) (v : Vec ℕ Global) → Word k × Bytes (vec_items v) → verb ≡ codes "put" → rest ≡ keyed (k, v) → ⊥)
      → ((k : ℕ) → Word k → verb ≡ codes "get" → rest ≡ decimal k → ⊥)
      → ((p : Put) → CanPut p → verb ≡ codes "came" → rest ≡ put_text p → ⊥)
      → ((j : ℕ) (c : Vec ℕ Global) → CanEvent (Has j c) → verb ≡ codes "has" → rest ≡ numbers_text (j ∷ vec_items c) → ⊥)
      → (x : Event) → CanEvent x → text ≡ event_words x → ⊥
  unfolding spaceless
  event_none put get came has (Put' k v) can e = let p = cut_parts text verb rest (codes "put") (keyed (k, v)) cut (word_of (codes "put") refl) e in put k v can p.0 p.1
  event_none put get came has (Get k) can e = let p = cut_parts text verb rest (codes "get") (decimal k) cut (word_of (codes "get") refl) e in get k can p.0 p.1
  event_none put get came has (Came q) can e = let p = cut_parts text verb rest (codes "came") (put_text q) cut (word_of (codes "came") refl) e in came q can p.0 p.1
  event_none put get came has (Has j c) can e = let p = cut_parts text verb rest (codes "has") (numbers_text (j ∷ vec_items c)) cut (word_of (codes "has") refl) e in has j c can p.0 p.1
  event_none put get came has Tell can e = has_space verb rest (codes "tell") (word_of (codes "tell") refl) (sym e ∙ cut.whole)

-- WHAT IS DONE AT A REPLICA: no event, and none of the others
module _ (text : List ℕ) (event : (x : Event) → CanEvent x → text ≡ event_words x → ⊥) where
  pub deed_none : (verb rest : List ℕ) → Cut text verb rest
      → ((b : Vec ℕ Global) → Bytes (vec_items b) → verb ≡ codes "bytes" → rest ≡ value_text (vec_items b) → ⊥)
      → ((j n : ℕ) → CanTwo (j, n) → verb ≡ codes "from" → rest ≡ two_text (j, n) → ⊥)
      → ((j : ℕ) → Word j → verb ≡ codes "asks" → rest ≡ decimal j → ⊥)
      → (d : Deed) → CanDeed d → text ≡ deed_words d → ⊥
  unfolding spaceless
  deed_none verb rest cut bytes from asks (Event' x) can e = event x can e
  deed_none verb rest cut bytes from asks (Bytes' b) can e = let p = cut_parts text verb rest (codes "bytes") (value_text (vec_items b)) cut (word_of (codes "bytes") refl) e in bytes b can p.0 p.1
  deed_none verb rest cut bytes from asks (From j n) can e = let p = cut_parts text verb rest (codes "from") (two_text (j, n)) cut (word_of (codes "from") refl) e in from j n can p.0 p.1
  deed_none verb rest cut bytes from asks (Asks j) can e = let p = cut_parts text verb rest (codes "asks") (decimal j) cut (word_of (codes "asks") refl) e in asks j can p.0 p.1

-- LINES
pub open_is_no_number : (i : ℕ) → Word i → codes "open" ≡ decimal i → ⊥
open_is_no_number i w e =
    let first = digit_at (decimal i) 0 (digits_decimal own i w) (decimal_nonempty i w) in
    omega (arith, first.1, ap (λ ds. get_or ds 0 0) e)

module _ (text first rest : List ℕ) (cut : Cut text first rest) where
  pub command_none :
      ((l : Limits) → CanLimits l → first ≡ codes "open" → rest ≡ limits_text l → ⊥)
      → ((i : ℕ) (d : Deed) → Word i → CanDeed d → first ≡ decimal i → rest ≡ deed_words d → ⊥)
      → (x : Command) → CanCommand x → text ≡ command_text x → ⊥
  unfolding spaceless
  command_none opens at (Open l) can e = let p = cut_parts text first rest (codes "open") (limits_text l) cut (word_of (codes "open") refl) e in opens l can p.0 p.1
  command_none opens at (At i d) can e = let p = cut_parts text first rest (decimal i) (deed_words d) cut (decimal_no_space i can.0) e in at i d can.0 can.1 p.0 p.1
  command_none opens at Round can e = has_space first rest (codes "round") (word_of (codes "round") refl) (sym e ∙ cut.whole)

pub command_uncut : (text : List ℕ) → NoSpace text → (text ≡ codes "round" → ⊥) → (x : Command) → CanCommand x → text ≡ command_text x → ⊥
command_uncut text s other (Open l) can e = has_space (codes "open") (limits_text l) text s e
command_uncut text s other (At i d) can e = has_space (decimal i) (deed_words d) text s e
command_uncut text s other Round can e = other e
