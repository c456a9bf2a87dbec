use Rattle.std.proofs.Common.{◌≡◌, get_or, decimal, Decides, sym, ◌∙◌, subst, inl, inr, arith}
use borrow.Author.Tests.{clash}
use Rattle.std.proofs.lemmas.Str.Pattern.{starts_char}
use Rattle.words.specs.Text.{Reads, Word}
use Rattle.words.proofs.Decimals.{no_plus, no_zero, reads_number}
use Rattle.words.proofs.number.Goals as goal

pub returns-then-starts_with : goal.returns-then-starts_with
returns-then-starts_with c =
    no_plus c.args.word.now ((starts_char 43 c.args.word.now _ c.starts_with.ensures.cases (omega arith) (omega arith)).0 c.if-starts_with.true)

pub returns-then-word-gt1 : goal.returns-then-word-gt1
returns-then-word-gt1 c =
    no_zero c.args.word.now ((starts_char 48 c.args.word.now _ c.starts_with-2.ensures.cases (omega arith) (omega arith)).0 c.if-starts_with-2.true) c.if-word-gt1.true

pub returns : goal.returns
returns c =
    let plus : Decides c.starts_with.result (get_or c.args.word.now 0 0 ≡ 43) = starts_char 43 c.args.word.now _ c.starts_with.ensures.cases (omega arith) (omega arith) in
    let nought : Decides c.starts_with-2.result (get_or c.args.word.now 0 0 ≡ 48) = starts_char 48 c.args.word.now _ c.starts_with-2.ensures.cases (omega arith) (omega arith) in
    subst (Reads decimal Word c.args.word.now) (sym c.ok.ensures.value)
    (reads_number c.args.word.now c.parse.result (λ e. clash (sym c.if-starts_with.false ∙ plus.1 e))
    (λ e. elim c.else-starts_with-2.either [ inl t ↦ t.1 | inr t ↦ absurd (clash (sym t ∙ nought.1 e)) ])
    c.parse.ensures.value.0)
