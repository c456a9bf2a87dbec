use Rattle.std.proofs.Common.{◌≡◌, ◌<◌, ◌≤◌, length, take}
use Rattle.model.specs.Limits.{Limits}
use Rattle.model.specs.Replica.{Replica}
use Rattle.memory.specs.Valid.{Shaped}
use Rattle.memory.specs.State.{with_log, own_count}
use Rattle.logs.specs.State.{Stands, Same}
use Rattle.logs.proofs.Replica.shorten.Given as goal

abbrev pub invariant-loop-len : goal.invariant-loop-len
invariant-loop-len l =
    (Same l.fn.self l.self)
    × (l.len ≤ l.self.at.layout.log.count)
    × ((li : Limits) (r : Replica) → Stands li r l.fn.self → Shaped li r.delivery → l.own ≡ own_count r →
    (l.len ≤ length r.delivery.log) × (l.len < l.stay → length r.delivery.log ≤ l.len) × Stands li (with_log (take l.len r.delivery.log) r) l.self)
