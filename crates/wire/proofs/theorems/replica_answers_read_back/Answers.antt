use Rattle.wire.proofs.Carried as carried
use Rattle.wire.proofs.theorems.replica_answers_read_back.Goals as goal

pub returns : goal.returns
returns c = carried.replica_answers_read_back
