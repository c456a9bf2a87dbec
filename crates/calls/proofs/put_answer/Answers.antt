use Rattle.std.proofs.lemmas.Result.{err_from_is_err_and}
use Rattle.std.proofs.Common.{refl, ap}
use Rattle.model.specs.Put.{text}
use Rattle.model.specs.Replica.{place, put}
use Rattle.logs.proofs.Changes.{fitted}
use Rattle.calls.specs.declared.Answer.TheVariants.{Made}
use Rattle.calls.proofs.Events.{accepted_as, puts_made, puts_refused, refused_as}
use Rattle.calls.proofs.put_answer.Goals as goal

pub returns-in_err-own_room : goal.returns-in_err-own_room
unfolding place
returns-in_err-own_room c = let p = err_from_is_err_and c.from_residual.result c.from_residual.ensures.1 in rw (p.1, p.2) (λ l r v k all t g.
    let b = text c.args.key v in
    let no = c.in_err-own_room.ensures l r b k in
    refused_as l r (put b) 3 _ no.1 refl (puts_refused l r all b g no.0))

pub returns : goal.returns
returns c = λ l r v k all t g.
    let b = text c.args.key v in
    accepted_as l r (put b) _ (ap Made (c.stamp.ensures l r v (fitted l r c.args.view.now.mem.now k.holds) k.laid.me t)) (puts_made l r all b g (c.in_ok-own_room.ensures l r b k))
