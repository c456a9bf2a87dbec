use Rattle.calls.proofs.Said.{answer_said}
use Rattle.calls.proofs.answer_said.Goals as goal

pub returns : goal.returns
returns c = answer_said
