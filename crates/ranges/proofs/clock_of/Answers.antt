use Rattle.std.proofs.Common.{◌-◌, sym, ap, ◌∙◌}
use Rattle.model.specs.Clock.{small}
use Rattle.wire.specs.Reading.{clock_in}
use Rattle.ranges.proofs.Counts.{a_clock, no_clock, sixteen, small_padded}
use Rattle.ranges.proofs.Tests.{handed}
use Rattle.ranges.proofs.clock_of.Goals as goal

pub returns-in_err-counts : goal.returns-in_err-counts
returns-in_err-counts c = rw c.from_residual.ensures (λ l e h. no_clock l (clock_in c.args.bytes.bytes.now) c.args.limits.replicas (ap (λ x. x.replicas) e) h.replicas.1 c.in_err-counts.ensures)

pub returns : goal.returns
returns c = rw c.then_some.ensures (λ l e h.
    let n = c.in_ok-counts.ensures in
    handed
    (a_clock l (clock_in c.args.bytes.bytes.now) c.args.limits.replicas c.all_small.result (ap (λ x. x.replicas) e) n.1
    (sym (small_padded (clock_in c.args.bytes.bytes.now) (16 - c.args.limits.replicas)) ∙ ap small (sym n.2) ∙ sym c.all_small.ensures))
    (ap (λ x. record { counts = x }) (n.2 ∙ sixteen (clock_in c.args.bytes.bytes.now) c.args.limits.replicas n.0 n.1)))
