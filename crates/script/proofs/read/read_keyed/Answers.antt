use Rattle.std.proofs.Common.{ℕ, vec_items, Vec, refl}
use Rattle.std.specs.declared.alloc.Global.{Global}
use Rattle.words.specs.Text.{Bytes, value_text}
use Rattle.words.proofs.Spaces.{cut_at, uncut}
use Rattle.script.specs.Events.{keyed}
use Rattle.script.proofs.Parts.{none_lifted, none_read, pair_no_first, pair_no_rest, pair_uncut}
use Rattle.script.proofs.read.read_keyed.Goals as goal

abbrev Value : Type 0
Value = Vec ℕ Global

pub returns-in_default : goal.returns-in_default
returns-in_default c = pair_uncut {B = Value} (λ v. value_text (vec_items v)) (λ v. Bytes (vec_items v)) keyed (λ n b. refl) c.args.text.now (uncut c.args.text.now c.in_default.ensures.cases)

pub returns-in_default-number : goal.returns-in_default-number
returns-in_default-number c =
    pair_no_first {B = Value} (λ v. value_text (vec_items v)) (λ v. Bytes (vec_items v)) keyed (λ n b. refl) c.args.text.now c.in-Some.key.now c.in-Some.rest.now
    (cut_at c.args.text.now c.in-Some.key c.in-Some.rest c.in-Some.ensures.cases) c.in_default-number.ensures

pub returns-in_default-2 : goal.returns-in_default-2
returns-in_default-2 c =
    pair_no_rest {B = Value} (λ v. value_text (vec_items v)) (λ v. Bytes (vec_items v)) keyed (λ n b. refl) c.args.text.now c.in-Some.key.now c.in-Some.rest.now
    (cut_at c.args.text.now c.in-Some.key c.in-Some.rest c.in-Some.ensures.cases)
    (none_lifted value_text Bytes c.in-Some.rest.now vec_items (none_read value_text Bytes c.in-Some.rest.now vec_items c.in_ok-value.field-0 c.in_default-2.is c.in_ok-value.ensures))
