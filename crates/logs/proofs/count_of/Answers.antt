use Rattle.std.proofs.Common.{ap, ◌∙◌, arith}
use Rattle.slots.specs.Image.{word_at}
use Rattle.memory.proofs.State.{reads}
use Rattle.logs.proofs.count_of.Goals as goal

pub returns : goal.returns
returns c = λ l r f h. c.read_word.ensures ∙ ap (word_at 1 c.args.i) f.mem ∙ (reads l r f.fits).count c.args.i (omega (arith, f.fits.delivery.replicas))
