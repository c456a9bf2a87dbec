use Rattle.std.proofs.Common.{◌-◌}
use Rattle.model.specs.Limits.{Limits}
use Rattle.model.specs.Put.{Body}
use Rattle.model.specs.Delivery.{Run}
use Rattle.model.specs.Store.{Store}
use Rattle.logs.specs.State.{Same}
use Rattle.delivery.specs.Steps.{Unswept}
use Rattle.delivery.proofs.Settled.{Going}
use Rattle.delivery.proofs.take_waiting.Given as goal

abbrev pub invariant-loop : goal.invariant-loop
invariant-loop l = (Same l.initial.replica l.replica) × ((li : Limits) (m : Run Body) (s : Store) → Unswept li m s l.initial.replica → Going li m s l.replica (l.end - l.counter))
