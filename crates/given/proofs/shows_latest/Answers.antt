use Rattle.given.proofs.Statements.{shows_latest}
use Rattle.given.proofs.shows_latest.Goals as goal

pub returns : goal.returns
returns c = shows_latest
