use Rattle.delivery.proofs.Queue.{emptied_all}
use Rattle.delivery.proofs.clean.Goals as goal

pub returns-clause-does : goal.returns-clause-does
returns-clause-does c =
    λ l r s.
    let f = s.fitted in
    let w = s.laid.waiting.0 in
    let n = c.waiting-count.ensures.count l r s in
    let k = c.clock_of-clock.ensures l r f in
    let b = c.keep-stay.ensures.bound in
    let g = c.empty.ensures l r f.fits w n b (c.keep-stay.ensures.moved l r f w n k) in
    record { fitted = emptied_all l r f.fits _ _ _ _ n b g c.write_word.ensures; laid = s.laid }
