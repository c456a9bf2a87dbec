use Rattle.given.proofs.Statements.{refusal_changes_nothing}
use Rattle.given.proofs.refusal_changes_nothing.Goals as goal

pub returns : goal.returns
returns c = refusal_changes_nothing
