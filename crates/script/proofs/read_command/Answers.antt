use Rattle.std.proofs.Common.{sym, ◌∙◌}
use borrow.Author.Tests.{clash}
use Rattle.words.proofs.Spaces.{cut_at, uncut}
use Rattle.script.specs.Commands.{CanDeed, CanLimits, deed_words, limits_text}
use Rattle.script.proofs.Parts.{none_is}
use Rattle.script.proofs.Verbs.{command_none, command_uncut, open_is_no_number}
use Rattle.std.proofs.lemmas.Slice.Eq.{bytes_eq-Decides}
use Rattle.script.proofs.read_command.Goals as goal

pub returns-in_default : goal.returns-in_default
returns-in_default c = command_uncut c.args.line.now (uncut c.args.line.now c.in_default.ensures.cases) (λ e. clash (sym c.if-eq.false ∙ c.eq.ensures ∙ (bytes_eq-Decides _ _).1 e))

pub returns-in_default-2 : goal.returns-in_default-2
returns-in_default-2 c =
    command_none c.args.line.now c.in-Some.first.now c.in-Some.rest.now (cut_at c.args.line.now c.in-Some.first c.in-Some.rest c.in-Some.ensures.cases)
    (λ l can e r. none_is limits_text CanLimits c.in-Some.rest.now c.in_ok-limits.field-0 c.in_default-2.is c.in_ok-limits.ensures l can r)
    (λ i d w can e r. open_is_no_number i w (sym ((bytes_eq-Decides _ _).0 (sym c.eq-2.ensures ∙ c.if-eq-2.true)) ∙ e))

pub returns-in_default-number : goal.returns-in_default-number
returns-in_default-number c =
    command_none c.args.line.now c.in-Some.first.now c.in-Some.rest.now (cut_at c.args.line.now c.in-Some.first c.in-Some.rest c.in-Some.ensures.cases)
    (λ l can e r. clash (sym c.if-eq-2.false ∙ c.eq-2.ensures ∙ (bytes_eq-Decides _ _).1 e))
    (λ i d w can e r. c.in_default-number.ensures i w e)

pub returns-in_default-3 : goal.returns-in_default-3
returns-in_default-3 c =
    command_none c.args.line.now c.in-Some.first.now c.in-Some.rest.now (cut_at c.args.line.now c.in-Some.first c.in-Some.rest c.in-Some.ensures.cases)
    (λ l can e r. clash (sym c.if-eq-2.false ∙ c.eq-2.ensures ∙ (bytes_eq-Decides _ _).1 e))
    (λ i d w can e r. none_is deed_words CanDeed c.in-Some.rest.now c.in_ok-deed.field-0 c.in_default-3.is c.in_ok-deed.ensures d can r)
