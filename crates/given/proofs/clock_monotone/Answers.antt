use Rattle.given.proofs.Statements.{clock_monotone}
use Rattle.given.proofs.clock_monotone.Goals as goal

pub returns : goal.returns
returns c = clock_monotone
