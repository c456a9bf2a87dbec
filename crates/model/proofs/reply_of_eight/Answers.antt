use Rattle.model.proofs.Example.{reply_of_eight}
use Rattle.model.proofs.reply_of_eight.Goals as goal

pub returns : goal.returns
returns c = reply_of_eight
