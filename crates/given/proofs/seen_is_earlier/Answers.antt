use Rattle.given.proofs.Statements.{seen_is_earlier}
use Rattle.given.proofs.seen_is_earlier.Goals as goal

pub returns : goal.returns
returns c = seen_is_earlier
