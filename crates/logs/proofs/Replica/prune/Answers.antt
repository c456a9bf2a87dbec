use Rattle.std.proofs.Common.{arith}
use Rattle.logs.proofs.Changes.{pruned_fits}
use Rattle.logs.proofs.Replica.prune.Goals as goal

pub returns-clause-does : goal.returns-clause-does
returns-clause-does c =
    λ l r s d.
    let o = c.own_count-own.ensures l r s in
    let n = c.least_known-low.ensures l r s in
    let t = c.shorten.ensures.does l r s d o in
    record { fitted = pruned_fits l r _ _ _ d o (omega arith) t.fitted; laid = t.laid }
