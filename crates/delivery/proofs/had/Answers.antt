use Rattle.std.proofs.Common.{◌∙◌, arith}
use Rattle.model.specs.Put.{had}
use Rattle.puts.specs.Values.{put_of}
use Rattle.puts.proofs.Padded.{had_code}
use Rattle.delivery.proofs.had.Goals as goal

pub returns : goal.returns
returns c =
    λ l r q f s e.
    let k = c.clock_of.ensures l r f in
    c.had_by.ensures ∙ (λ i. had (k i).counts (put_of (e i))) ∙ had_code r.delivery.clock q (omega (arith, f.fits.delivery.clock, f.fits.delivery.replicas)) s.fit
