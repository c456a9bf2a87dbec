use Rattle.std.proofs.Common.{◌≡◌, ℕ, ◌+◌, ◌*◌, ◌≤◌, List, length}
use Rattle.model.specs.Clock.{Clock}
use Rattle.model.specs.Delivery.{reply}
use Rattle.model.specs.Limits.{Limits}
use Rattle.model.specs.Replica.{Replica}
use Rattle.puts.specs.Values.{code_clock}
use Rattle.logs.specs.State.{SeenValid}
use Rattle.wire_out.specs.Written.{Adds}
use Rattle.replies.specs.Written.{item_most}
use Rattle.replies.proofs.Replies.{items}
use Rattle.replies.proofs.put_reply.Given as goal

abbrev pub invariant-loop-i : goal.invariant-loop-i
invariant-loop-i l =
    (l.reply.at ≤ 1 + l.i * item_most) × ((b : List ℕ) × Adds l.initial.reply l.reply b
    × ((m : Limits) (r : Replica) (c : Clock) → SeenValid m r l.view → length c ≡ m.replicas → l.clock ≡ code_clock c → b ≡ items l.i (reply c r.delivery)))
