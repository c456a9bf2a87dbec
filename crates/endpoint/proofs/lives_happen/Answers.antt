use Rattle.endpoint.proofs.Happens.{lives_happen}
use Rattle.endpoint.proofs.lives_happen.Goals as goal

pub returns : goal.returns
returns c = lives_happen
