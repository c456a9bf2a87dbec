use Rattle.std.proofs.Common.{◌≡◌, refl, arith}
use Rattle.std.proofs.lemmas.Result.{err_from_is_err_and}
use Rattle.memory.specs.Layout.{words}
use Rattle.calls.proofs.Enters.{same_error}
use Rattle.endpoint.proofs.Steps.{happens, refuses}
use Rattle.endpoint.proofs.answered.Goals as goal

pub returns-in_err-at : goal.returns-in_err-at
returns-in_err-at c =
    let p = err_from_is_err_and c.from_residual.result c.from_residual.ensures.1 in
    rw (p.1, p.2) (refl, refl, refuses c.args.mem.now c.args.event.now _ c.in_err-at.ensures.image (λ f. same_error (c.in_err-at.ensures.foreign f)))

pub returns : goal.returns
returns c =
    happens c.args.mem.now c.args.event.now c.words.result c.in_ok-at.at c.in_ok-at.event
    (λ l r rest all v e.
    let x = c.in_ok-at.ensures.image l r rest all v e in
    let size : c.words.result ≡ words l = omega (arith, c.words.ensures, x.laid.waiting.0, x.laid.waiting.1) in
    (x, size))
    c.in_ok-at.ensures.room.1 c.happen.result _ _ _ c.happen.ensures
