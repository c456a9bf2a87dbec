use Rattle.std.proofs.Common.{ap, ◌∙◌, arith}
use Rattle.slots.specs.Image.{word_at}
use Rattle.memory.proofs.State.{reads}
use Rattle.logs.proofs.waiting.Goals as goal

pub returns : goal.returns
returns c =
    record {
      bound = omega arith;
      count = λ l r f w. let e = c.read_word.ensures ∙ ap (word_at 0 0) f.mem ∙ (reads l r f.fits).waiting_size in omega (arith, f.fits.delivery.room, w);
    }
