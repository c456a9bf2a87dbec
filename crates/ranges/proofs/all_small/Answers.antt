use Rattle.std.proofs.Common.{rules, ◌<◌, ◌≤◌}
use borrow.Author.Tests.{tests}
use Rattle.std.proofs.lemmas.Iterator.{cases_from_all, YieldsList-from_slice}
use Rattle.model.specs.Limits.{count_bound}
use Rattle.ranges.proofs.Counts.{small_from_all}
use Rattle.ranges.proofs.all_small.Goals as goal

pub returns : goal.returns
returns c =
    small_from_all _ _
    (cases_from_all _ _ _ (λ n. n < count_bound) (λ n. count_bound ≤ n) c.all.ensures.ran (YieldsList-from_slice c.args.clock.now.counts c.iter.ensures.rest)
    (λ x q k. search (rules, tests)) (λ x q k. search (rules, tests)))
