use Rattle.std.proofs.Common.{◌≡◌, ℕ, ◌-◌, ◌≤◌, List, ◌++◌, length, take, drop, replicate}
use Rattle.wire.specs.Reading.{clock_in}
use Rattle.wire.specs.Said.{counts_left}
use Rattle.wire.proofs.event.ClockBytes.counts.Given as goal

abbrev pub invariant-loop-n : goal.invariant-loop-n
invariant-loop-n l =
    let c : List ℕ = clock_in l.self.bytes.now in
    let i : ℕ = l.found in
    record { left : drop i c ≡ counts_left l.n-iterator; within : i ≤ length c; few : i ≤ l.many; counts : l.counts ≡ take i c ++ replicate (16 - i) 0 }
