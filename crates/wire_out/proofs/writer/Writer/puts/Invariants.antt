use Rattle.std.proofs.Common.{take}
use Rattle.std.specs.List.{flat_map}
use Rattle.wire_out.specs.Said.{item}
use Rattle.wire_out.specs.Written.{Adds}
use Rattle.wire_out.proofs.writer.Writer.puts.Given as goal

abbrev pub invariant-loop-put : goal.invariant-loop-put
invariant-loop-put l = Adds l.initial.self l.self (flat_map item (take l.put-index l.puts))
