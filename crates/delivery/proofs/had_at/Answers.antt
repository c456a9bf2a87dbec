use Rattle.std.proofs.Common.{rules, ◌≡◌, leb, ap, ◌∙◌}
use Rattle.std.proofs.lemmas.Option.{MatchOption-at_some}
use Rattle.model.specs.Clock.{at}
use Rattle.model.specs.Put.{number}
use Rattle.puts.proofs.Padded.{get_or_pad}
use Rattle.delivery.proofs.Reading.{head_there}
use Rattle.delivery.proofs.had_at.Goals as goal

pub returns : goal.returns
returns c =
    λ rs ss q x n h o t k e em.
    let p = MatchOption-at_some _ _ _ (head_there rs ss _ _ q _ n h o t em c.read_head.ensures) c.is_some_and.ensures in
    let b : c.is_some_and.result ≡ leb (number q) (at c.args.clock.now.counts q.from) = search (rules, p) in
    b ∙ ap (leb (number q)) ((λ i. at (e i).counts q.from) ∙ get_or_pad 16 x q.from k)
