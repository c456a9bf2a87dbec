use Rattle.std.proofs.Common.{◌∙◌, arith}
use Rattle.std.proofs.lemmas.List.{length-set}
use Rattle.puts.proofs.Clocks.{join_goes, join_ends}
use Rattle.puts.proofs.Clock.join.Goals as goal

pub loop-i-preserved : goal.loop-i-preserved
loop-i-preserved c = (
  length-set _ _ _ ∙ c.loop-i.invariant.0,
  simp c.max.ensures (join_goes _ _ _ c.loop-i.i (omega arith) (omega arith) c.loop-i.invariant.1),
)

pub returns : goal.returns
returns c = join_ends _ _ _ c.loop-i.i (omega arith) c.loop-i.invariant.1
