use Rattle.std.proofs.Common.{◌∙◌, arith}
use Rattle.puts.proofs.Bytes.{unpack_more, unpack_all}
use Rattle.puts.proofs.words.unpack.Goals as goal

pub loop-k-preserved : goal.loop-k-preserved
loop-k-preserved c =
    unpack_more _ _ _ c.loop-k.k _ (omega arith) c.loop-k.invariant.0 (omega arith) (omega arith) (c.copy_from_slice.ensures.after ∙ c.to_le_bytes.ensures) c.loop-k.invariant.1

pub returns : goal.returns
returns c = unpack_all _ _ c.loop-k.k (omega arith) c.requires c.loop-k.invariant.0 c.loop-k.invariant.1
