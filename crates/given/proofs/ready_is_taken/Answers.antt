use Rattle.given.proofs.Statements.{ready_is_taken}
use Rattle.given.proofs.ready_is_taken.Goals as goal

pub returns : goal.returns
returns c = ready_is_taken
