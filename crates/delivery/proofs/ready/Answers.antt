use Rattle.delivery.proofs.Reading.{ready_is}
use Rattle.delivery.proofs.ready.Goals as goal

pub returns : goal.returns
returns c = λ l r q f s e. ready_is l r q _ _ _ f.fits s (c.clock_of.ensures l r f) e c.ready.ensures
