use Rattle.std.proofs.Common.{[], take, rules, refl, arith}
use Rattle.std.proofs.lemmas.List.{length-take}
use Rattle.wire.proofs.Views.{length_clock}
use Rattle.wire_out.proofs.Overs.{then_adds}
use Rattle.replies.proofs.put_clock.Goals as goal

pub clock-requires : goal.clock-requires
clock-requires c =
    let counts = take c.args.replicas c.args.clock.now.counts in
    omega (arith, length_clock counts [], length-take c.args.replicas c.args.clock.now.counts, c.byte.ensures.wrote.end, c.byte.ensures.long)

pub returns : goal.returns
returns c =
    let counts = take c.args.replicas c.args.clock.now.counts in
    let all = then_adds c.byte.ensures c.clock.ensures in
    record {
      bytes = _;
      wrote = record { end = all.wrote.end; bytes = (let same = all.same in let wrote = all.wrote.bytes in search rules) };
      most = omega (arith, all.wrote.end, length_clock counts [], length-take c.args.replicas c.args.clock.now.counts);
      are = refl;
    }
