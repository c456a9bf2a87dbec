use Rattle.std.proofs.Common.{sym, ap}
use Rattle.model.specs.Replica.{legible}
use Rattle.messages.proofs.reading.read_event.Goals as goal

pub returns-in-Err : goal.returns-in-Err
unfolding legible
returns-in-Err c = sym (ap legible c.in-Err.ensures.is)
