use Rattle.std.proofs.Common.{ap, ◌∙◌, arith}
use Rattle.model.specs.Clock.{at}
use Rattle.puts.specs.declared.Clock.{Clock}
use Rattle.puts.proofs.Padded.{get_or_pad}
use Rattle.logs.proofs.Changes.{fitted}
use Rattle.logs.proofs.lacked.Goals as goal

pub returns : goal.returns
returns c =
    λ l r x h i g n e.
    let d = r.delivery in
    let f = fitted l r _ h in
    let o = c.count_of-own.ensures l r f (omega (arith, f.fits.delivery.me, i)) ∙ ap (at d.clock) i in
    let t = c.count.ensures ∙ ap (λ (y : Clock). at y.counts c.args.me) e ∙ get_or_pad 16 x c.args.me (omega (arith, f.fits.delivery.replicas)) ∙ ap (at x) i in
    let m = c.logged.ensures.count l r f g h.valid.shaped.room in
    omega arith
