use Rattle.std.proofs.Common.{◌≡◌, ◌+◌, length}
use Rattle.model.specs.Limits.{Limits}
use Rattle.model.specs.Replica.{Replica}
use Rattle.memory.specs.Valid.{Fits}
use Rattle.delivery.specs.Steps.{Moved, Emptied}
use Rattle.delivery.proofs.empty.Given as goal

abbrev pub invariant-loop-j : goal.invariant-loop-j
invariant-loop-j l =
    (li : Limits) (r : Replica) → Fits li r → l.base ≡ li.keys + li.log_most → l.count ≡ length r.delivery.waiting → Moved li r l.initial.mem l.count l.stay → Emptied li r l.mem l.j l.stay
