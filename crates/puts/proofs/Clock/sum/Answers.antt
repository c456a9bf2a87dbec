use Rattle.std.proofs.Common.{◌≡◌, ◌+◌, ◌%◌, ◌^◌, rules, ◌∙◌, arith}
use Rattle.std.specs.List.{fold}
use Rattle.std.proofs.iter.runs.Made.{chains}
use Rattle.puts.proofs.Clocks.{sum_is}
use Rattle.puts.proofs.Clock.sum.Goals as goal

pub returns : goal.returns
returns c =
    let xs = c.args.self.now.counts in
    let e : c.fold.result ≡ fold (λ a x. (a + x) % 2 ^ 64) 0 xs = search (rules, chains) in
    λ small. e ∙ sum_is xs (omega arith) small
