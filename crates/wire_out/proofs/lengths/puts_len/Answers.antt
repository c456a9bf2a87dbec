use Rattle.std.proofs.Common.{◌≡◌, ◌+◌, length, fold, rules, ◌∙◌}
use Rattle.std.proofs.iter.runs.Made.{chains}
use Rattle.wire_out.specs.Said.{item}
use Rattle.wire_out.specs.Written.{capped}
use Rattle.wire_out.proofs.Sizes.{puts_folded}
use Rattle.wire_out.proofs.lengths.puts_len.Goals as goal

pub returns : goal.returns
returns c =
    let is : c.fold.result ≡ fold (λ n p. capped (capped (length (item p)) + n)) 1 c.args.puts.now = search (rules, chains) in
    is ∙ puts_folded c.args.puts.now
