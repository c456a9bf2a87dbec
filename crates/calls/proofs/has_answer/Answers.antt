use Rattle.std.proofs.lemmas.Result.{err_from_is_err_and}
use Rattle.std.proofs.Common.{refl, ap}
use Rattle.model.specs.Replica.{has, place}
use Rattle.calls.specs.declared.Answer.TheVariants.{Reply}
use Rattle.calls.proofs.Events.{accepted_as, hears, hears_impossible, refused_as}
use Rattle.calls.proofs.Told.{told_long}
use Rattle.calls.proofs.has_answer.Goals as goal

pub returns-in_err-possible_clock : goal.returns-in_err-possible_clock
unfolding place
returns-in_err-possible_clock c = let p = err_from_is_err_and c.from_residual.result c.from_residual.ensures.1 in rw (p.1, p.2) (λ l r j k h all g e.
    let no = c.in_err-possible_clock.ensures l r j k h (told_long l j k g).1 e in
    refused_as l r (has j k) 2 _ no.1 refl (hears_impossible l r all j k g no.0))

pub returns : goal.returns
returns c = λ l r j k h all g e. accepted_as l r (has j k) _ (ap Reply e) (hears l r all j k g (c.in_ok-possible_clock.ensures l r j k h (told_long l j k g).1 e))
