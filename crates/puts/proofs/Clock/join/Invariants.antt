use Rattle.std.proofs.Common.{◌≡◌, ◌++◌, length, take, drop}
use Rattle.model.specs.Clock.{join}
use Rattle.puts.proofs.Clock.join.Given as goal

abbrev pub invariant-loop-i : goal.invariant-loop-i
invariant-loop-i l = (length l.mine-items ≡ 16) × (take l.i l.mine-items ++ join (drop l.i l.mine-items) (drop l.i l.other.counts) ≡ join l.fn.self.counts l.other.counts)
