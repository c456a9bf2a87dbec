use Rattle.std.proofs.Common.{rules, ◌≡◌, ◌<◌, length, get_or}
use Rattle.memory.proofs.Sound.{no_put}
use Rattle.puts.specs.Words.{code_slot}
use Rattle.delivery.specs.Steps.{if_ready}
use Rattle.delivery.proofs.Found.{found_from_Range}
use Rattle.delivery.proofs.Settled.{first_is}
use Rattle.delivery.proofs.first_ready.Goals as goal

pub returns : goal.returns
returns c =
    λ l r s.
    let d = r.delivery in
    let ps = d.waiting in
    let k = c.clock_of-clock.ensures l r s.fitted in
    first_is d ps no_put _ (found_from_Range c.waiting.result (length ps) _ _ (λ i o. i < length ps → o ≡ code_slot (if_ready d (get_or ps i no_put))) (c.waiting.ensures.count l r s) c.find_map.ensures.runs (λ i o q t. search rules))
