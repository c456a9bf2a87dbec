use Rattle.std.proofs.Common.{ap, ◌∙◌}
use Rattle.slots.specs.Image.{row_at}
use Rattle.memory.proofs.State.{reads}
use Rattle.logs.proofs.clock_of.Goals as goal

pub returns : goal.returns
returns c = λ l r f. let e = c.read_row.ensures ∙ ap (row_at 1) f.mem ∙ (reads l r f.fits).clock in λ i. record { counts = e i }
