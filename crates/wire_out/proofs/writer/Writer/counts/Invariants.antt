use Rattle.std.proofs.Common.{◌≡◌, ◌+◌, ◌*◌, take}
use Rattle.wire.specs.Bytes.{write_counts}
use Rattle.wire_out.specs.Written.{Adds}
use Rattle.wire_out.proofs.writer.Writer.counts.Given as goal

abbrev pub invariant-loop-n : goal.invariant-loop-n
invariant-loop-n l =
    record { place : l.self.at ≡ l.initial.self.at + 9 * l.n-index; adds : Adds l.initial.self l.self (write_counts (take l.n-index l.counts)) }
