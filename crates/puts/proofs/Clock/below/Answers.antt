use Rattle.std.proofs.Common.{ℕ, ◌<◌, ◌≤◌, rules, arith}
use Rattle.std.proofs.lemmas.Iterator.{cases_from_all, YieldsList-from_slice, YieldsList-from_zip}
use Rattle.puts.proofs.Clocks.{below_cases}
use Rattle.puts.proofs.Clock.below.Goals as goal
use borrow.Author.Tests.{tests}

pub returns : goal.returns
returns c =
    let xs = c.args.self.now.counts in
    let ys = c.args.other.now.counts in
    below_cases xs ys _ (omega arith)
    (cases_from_all c.all.new.self _ _ (λ (p : ℕ × ℕ). p.0 ≤ p.1) (λ (p : ℕ × ℕ). p.1 < p.0) c.all.ensures.ran (YieldsList-from_zip (YieldsList-from_slice xs (cc)) (YieldsList-from_slice ys (cc))) (λ x q k. search (rules, tests)) (λ x q k. search (rules, tests)))
