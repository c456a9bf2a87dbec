use Rattle.std.proofs.Common.{◌+◌, ap, ◌∙◌, arith}
use Rattle.slots.specs.Image.{row_at}
use Rattle.memory.proofs.State.{reads}
use Rattle.logs.proofs.known_of.Goals as goal

pub returns-then-i-ge-COUNTS : goal.returns-then-i-ge-COUNTS
returns-then-i-ge-COUNTS c = λ l r f h. absurd (omega (arith, f.fits.delivery.replicas))

pub returns : goal.returns
returns c = λ l r f h. let e = c.read_row.ensures ∙ ap (row_at (2 + c.args.i)) f.mem ∙ (reads l r f.fits).known c.args.i h in λ i. record { counts = e i }
