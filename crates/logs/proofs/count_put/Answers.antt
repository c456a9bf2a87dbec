use Rattle.std.proofs.Common.{arith}
use Rattle.logs.proofs.Changes.{ticked}
use Rattle.logs.proofs.count_put.Goals as goal

pub returns : goal.returns
returns c =
    λ l r f h s.
    let e = c.count_of-n.ensures l r f h in
    ticked l r _ f _ c.args.from _ h s (omega arith) c.write_word.ensures
