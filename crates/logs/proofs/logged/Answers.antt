use Rattle.std.proofs.Common.{ap, ◌∙◌, arith}
use Rattle.slots.specs.Image.{word_at}
use Rattle.memory.proofs.State.{reads}
use Rattle.logs.proofs.logged.Goals as goal

pub returns : goal.returns
returns c =
    record {
      bound = omega arith;
      count = λ l r f w h. let e = c.read_word.ensures ∙ ap (word_at 0 1) f.mem ∙ (reads l r f.fits).log_size in omega (arith, w);
    }
