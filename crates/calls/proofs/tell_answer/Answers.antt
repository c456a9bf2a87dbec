use Rattle.std.proofs.Common.{ap}
use Rattle.model.specs.Replica.{tell}
use Rattle.logs.proofs.Changes.{fitted}
use Rattle.calls.specs.declared.Answer.TheVariants.{Clock}
use Rattle.calls.proofs.Events.{accepted_as, tells}
use Rattle.calls.proofs.tell_answer.Goals as goal

pub returns : goal.returns
returns c = λ l r k all. accepted_as l r tell _ (ap Clock (c.clock_of.ensures l r (fitted l r c.args.view.now.mem.now k.holds))) (tells l r all)
