use Rattle.std.proofs.Common.{rules, ◌≡◌, ◌<◌, true, false, length, get_or, refl, arith}
use Rattle.std.proofs.lemmas.Iterator.{YieldsList-from_range, cases_from_any}
use Rattle.model.specs.Put.{same_put}
use Rattle.memory.proofs.Sound.{no_put}
use Rattle.delivery.proofs.Reading.{is_in_by}
use Rattle.delivery.proofs.is_waiting.Goals as goal

pub returns : goal.returns
returns c =
    λ l r q s ef en.
    let ps = r.delivery.waiting in
    is_in_by q ps no_put _
    (cases_from_any _ _ _ (λ i. i < length ps → same_put q (get_or ps i no_put) ≡ true) (λ i. i < length ps → same_put q (get_or ps i no_put) ≡ false) c.any.ensures.ran
    (YieldsList-from_range 0 c.waiting.result (length ps) refl (omega (arith, c.waiting.ensures.count l r s))) (λ i f k h. search rules) (λ i f k. (search rules, λ h. search rules)))
