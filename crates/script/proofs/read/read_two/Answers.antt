use Rattle.std.proofs.Common.{decimal, refl}
use Rattle.words.specs.Text.{Word}
use Rattle.words.proofs.Spaces.{cut_at, uncut}
use Rattle.script.specs.Events.{two_text}
use Rattle.script.proofs.Parts.{pair_no_first, pair_no_rest, pair_uncut}
use Rattle.script.proofs.read.read_two.Goals as goal

pub returns-in_err-first : goal.returns-in_err-first
returns-in_err-first c = rw c.from_residual.ensures (pair_uncut decimal Word two_text (λ n b. refl) c.args.text.now (uncut c.args.text.now c.in_err-first.ensures.cases))

pub returns-in_err-number : goal.returns-in_err-number
returns-in_err-number c =
    rw c.from_residual-in_err-number.ensures
    (pair_no_first decimal Word two_text (λ n b. refl) c.args.text.now c.in_ok-first.first.now c.in_ok-first.rest.now (cut_at c.args.text.now c.in_ok-first.first c.in_ok-first.rest c.in_ok-first.ensures.cases) c.in_err-number.ensures)

pub returns-in_err-number-2 : goal.returns-in_err-number-2
returns-in_err-number-2 c =
    rw c.from_residual-in_err-number-2.ensures
    (pair_no_rest decimal Word two_text (λ n b. refl) c.args.text.now c.in_ok-first.first.now c.in_ok-first.rest.now (cut_at c.args.text.now c.in_ok-first.first c.in_ok-first.rest c.in_ok-first.ensures.cases) c.in_err-number-2.ensures)
