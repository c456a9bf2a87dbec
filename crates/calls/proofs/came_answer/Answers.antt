use Rattle.std.proofs.lemmas.Result.{err_from_is_err_and}
use Rattle.std.proofs.Common.{refl}
use Rattle.model.specs.Replica.{came, place}
use Rattle.calls.proofs.Events.{accepted_as, comes, comes_full, comes_impossible, refused_as}
use Rattle.calls.proofs.came_answer.Goals as goal

pub returns-in_err-_possible : goal.returns-in_err-_possible
unfolding place
returns-in_err-_possible c = let p = err_from_is_err_and c.from_residual.result c.from_residual.ensures.1 in rw (p.1, p.2) (λ l r q h all s g e.
    let no = c.in_err-_possible.ensures l r q h s e in
    refused_as l r (came q) 2 _ no.1 refl (comes_impossible l r all q g no.0))

pub returns-in_err-_room : goal.returns-in_err-_room
unfolding place
returns-in_err-_room c = let p = err_from_is_err_and c.from_residual-in_err-_room.result c.from_residual-in_err-_room.ensures.1 in rw (p.1, p.2) (λ l r q h all s g e.
    let no = c.in_err-_room.ensures l r q h s e in
    refused_as l r (came q) 4 _ no.1 refl (comes_full l r all q g (c.in_ok-_possible.ensures l r q h s e) no.0))

pub returns : goal.returns
returns c = λ l r q h all s g e. accepted_as l r (came q) _ refl (comes l r all q g (c.in_ok-_possible.ensures l r q h s e) (c.in_ok-_room.ensures l r q h s e))
