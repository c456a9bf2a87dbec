use Rattle.model.proofs.Programs.{programs_agree}
use Rattle.model.proofs.programs_agree.Goals as goal

pub returns : goal.returns
returns c = programs_agree
