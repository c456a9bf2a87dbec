use Rattle.std.proofs.Common.{◌≡◌, ◌++◌, take, Err, sym, refl, ap, ◌∙◌, subst, arith}
use Rattle.std.proofs.lemmas.Result.{err_from_is_err_and}
use Rattle.memory.specs.Image.{encode}
use Rattle.memory.specs.Layout.{words}
use Rattle.memory.specs.Valid.{Valid}
use Rattle.memory.proofs.Starts.{lent}
use Rattle.logs.specs.State.{Holds}
use Rattle.wire.specs.Reading.{read}
use Rattle.calls.proofs.Enters.{same_error}
use Rattle.calls.proofs.Said.{refused_said}
use Rattle.replica.proofs.step.Goals as goal

pub returns-in_err-at : goal.returns-in_err-at
returns-in_err-at c =
    let p = err_from_is_err_and c.from_residual.result c.from_residual.ensures.1 in
    rw (p.1, p.2) (record {
      right = λ l r rest all v e.
          let no = refused_said l r (read c.args.event.now) _ (c.in_err-at.ensures.image l r rest all v e) in
          record { valid = subst (Valid l) (sym no.1) v; mem = e ∙ ap (λ x. encode l x ++ rest) (sym no.1); says = no.0 };
      foreign = λ f. (ap Err (same_error (c.in_err-at.ensures.foreign f)), refl);
    })

pub returns : goal.returns
returns c = record {
  right = λ l r rest all v e.
      let x = c.in_ok-at.ensures.image l r rest all v e in
      let size : c.words.result ≡ words l = omega (arith, c.words.ensures, x.laid.waiting.0, x.laid.waiting.1) in
      let parts = lent l r c.args.mem.now rest c.words.result v.fits size e in
      let before : Holds l r (take c.words.result c.args.mem.now) = record { valid = v; mem = parts.0 } in
      let after = c.act.ensures.does l r (read c.args.event.now) before x.laid all x.comes in
      record { valid = after.valid; mem = (λ i. after.mem i ++ parts.1 i); says = c.act.ensures.says l r (read c.args.event.now) before x.laid all x.comes };
  foreign = λ f. absurd (f c.in_ok-at.ensures.room.1);
}
