use Rattle.std.proofs.Common.{vec_items, sym, ◌∙◌, subst, eq-eqb, eqb-true}
use borrow.Author.Tests.{clash}
use Rattle.std.specs.Option.{option_map}
use Rattle.std.proofs.lemmas.Slice.Eq.{bytes_eq-Decides}
use Rattle.words.specs.Text.{Bytes, Reads, hex}
use Rattle.words.proofs.Values.{value_some, value_reads}
use Rattle.std.proofs.lemmas.Result.{IfOk-weaker}
use Rattle.words.proofs.value.Goals as goal

pub returns-then-eq : goal.returns-then-eq
returns-then-eq c = rw c.new.ensures.items (tt, (bytes_eq-Decides _ _).0 (sym c.eq.ensures ∙ c.if-eq.true))

pub returns-then-is_empty : goal.returns-then-is_empty
returns-then-is_empty c = λ bs f e. value_some c.args.word.now bs e (eqb-true _ 0 (sym c.is_empty.ensures ∙ c.if-is_empty.true))

pub returns : goal.returns
returns c =
    IfOk-weaker c.hex_bytes.result _ _
    (λ o h. value_reads c.args.word.now (option_map vec_items o) (λ z. clash (sym c.if-is_empty.false ∙ c.is_empty.ensures ∙ eq-eqb _ 0 z)) (λ z. clash (sym c.if-eq.false ∙ c.eq.ensures ∙ (bytes_eq-Decides _ _).1 z))
    (subst (λ w. Reads hex Bytes w (option_map vec_items o)) c.as_bytes.ensures.value h))
    c.hex_bytes.ensures
