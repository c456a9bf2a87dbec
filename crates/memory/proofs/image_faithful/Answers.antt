use Rattle.memory.proofs.Faithful.{same_limits, same_state}
use Rattle.memory.proofs.image_faithful.Goals as goal

pub returns : goal.returns
returns c = λ l m r s v w e. (same_limits l m r s v w e, same_state l m r s v w e)
