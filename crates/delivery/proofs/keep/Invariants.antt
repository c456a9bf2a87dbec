use Rattle.std.proofs.Common.{◌≡◌, ◌+◌, ◌≤◌, length}
use Rattle.model.specs.Limits.{Limits}
use Rattle.model.specs.Replica.{Replica}
use Rattle.puts.specs.Values.{code_clock}
use Rattle.logs.specs.State.{Fitted}
use Rattle.delivery.specs.Steps.{Moved}
use Rattle.delivery.proofs.keep.Given as goal

abbrev pub invariant-loop-i : goal.invariant-loop-i
invariant-loop-i l =
    (l.stay ≤ l.i)
    × ((li : Limits) (r : Replica) → Fitted li r l.initial.mem → l.base ≡ li.keys + li.log_most → l.count ≡ length r.delivery.waiting → l.clock ≡ code_clock r.delivery.clock → Moved li r l.mem l.i l.stay)
