use Rattle.std.proofs.Common.{rules}
use Rattle.std.proofs.Output.{has_written_append, has_written_of_eq}
use Rattle.text.proofs.Puts.{puts_more}
use Rattle.text.proofs.print.PutsTextDisplay.fmt.Goals as goal

pub loop-put-preserved : goal.loop-put-preserved
loop-put-preserved g c = λ p.
    has_written_of_eq _ _ _ _ _
    (puts_more c.args.self.now.0.now c.in-Some.rest.now c.in-Some.first.now c.put-item.result c.loop-put.put-index c.in-Some.ensures.cases.0 c.loop-put-test.true c.put-item.is)
    (has_written_append _ _ _ _ _ _ (c.loop-put.invariant p) (search rules))
