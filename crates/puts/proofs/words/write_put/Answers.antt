use Rattle.std.proofs.Common.{◌∙◌, arith}
use Rattle.puts.proofs.Slots.{put_laid}
use Rattle.puts.proofs.words.write_put.Goals as goal

pub returns : goal.returns
returns c =
    put_laid _ _ _ _ _ c.args.p.now c.requires (omega arith) c.copy_from_slice.ensures.after c.copy_from_slice-2.ensures.after
    (c.copy_from_slice-3.ensures.after ∙ c.pack.ensures) c.copy_from_slice-4.ensures.after
