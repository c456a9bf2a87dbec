use Rattle.std.proofs.Common.{ap, rules}
use Rattle.model.specs.Replica.{get}
use Rattle.logs.proofs.Changes.{fitted}
use Rattle.calls.specs.declared.Answer.TheVariants.{Value}
use Rattle.calls.proofs.Events.{accepted_as, gets}
use Rattle.calls.proofs.get_answer.Goals as goal

pub returns : goal.returns
returns c = λ l r k all b. accepted_as l r (get c.args.key) _ (ap Value (let there = c.value_at-put.ensures l r (fitted l r c.args.view.now.mem.now k.holds) b in search (rules, there))) (gets l r all c.args.key b)
