use Rattle.given.proofs.Programs.{without_get}
use Rattle.given.proofs.shows_latest_needs_get.Goals as goal

pub returns : goal.returns
returns c = without_get
