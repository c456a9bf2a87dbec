use Rattle.std.proofs.Common.{ap, arith}
use Rattle.puts.specs.declared.Clock.{Clock}
use Rattle.logs.proofs.Changes.{knows}
use Rattle.logs.proofs.know.Goals as goal

pub returns-then-i-lt-COUNTS : goal.returns-then-i-lt-COUNTS
returns-then-i-lt-COUNTS c = λ l r x f h n s e. knows l r _ f _ _ c.args.i x h n s (ap (λ (y : Clock). y.counts) e) c.write_row.ensures

pub returns-else-i-lt-COUNTS : goal.returns-else-i-lt-COUNTS
returns-else-i-lt-COUNTS c = λ l r x f h n s e. absurd (omega (arith, f.fits.delivery.replicas))
