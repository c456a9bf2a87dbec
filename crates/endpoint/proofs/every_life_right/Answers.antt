use Rattle.endpoint.proofs.Lives.{every_life_right}
use Rattle.endpoint.proofs.every_life_right.Goals as goal

pub returns : goal.returns
returns c = every_life_right
