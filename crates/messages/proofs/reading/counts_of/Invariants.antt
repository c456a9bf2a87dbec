use Rattle.std.proofs.Common.{◌≡◌, ◌++◌, vec_items}
use Rattle.wire.specs.Reading.{clock_in}
use Rattle.wire.specs.Said.{counts_left}
use Rattle.messages.proofs.reading.counts_of.Given as goal

abbrev pub invariant-loop-n : goal.invariant-loop-n
invariant-loop-n l = vec_items l.counts ++ counts_left l.n-iterator ≡ clock_in l.fn.clock.bytes.now
