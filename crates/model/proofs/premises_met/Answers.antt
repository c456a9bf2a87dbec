use Rattle.model.proofs.Instances.{premises_met}
use Rattle.model.proofs.premises_met.Goals as goal

pub returns : goal.returns
returns c = premises_met
