use Rattle.wire.proofs.Events as events
use Rattle.wire.proofs.theorems.place_right.Goals as goal

pub returns : goal.returns
returns c = events.place_right
