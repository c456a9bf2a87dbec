use Rattle.std.proofs.Common.{arith}
use Rattle.wire.proofs.Numbers.{bytes_each}
use Rattle.wire.proofs.Events.{reads_right}
use Rattle.wire.proofs.read.read_event.Goals as goal

pub returns : goal.returns
returns c =
    let is = c.by_kind.ensures in
    let all = bytes_each c.args.bytes.now (λ i. omega (arith, c.type_inv.bytes i)) in
    record { is = is; right = reads_right _ _ all (omega arith) is; bytes = all }
