use Rattle.std.proofs.Common.{refl}
use Rattle.model.specs.Replica.{came, moves}
use Rattle.model.proofs.Replica.{passed}
use Rattle.calls.proofs.Acts.{was_accepted}
use Rattle.calls.proofs.Events.{done_as}
use Rattle.calls.proofs.apply_came.Goals as goal

pub returns-in-Came : goal.returns-in-Came
unfolding moves
returns-in-Came c = record {
  same = c.deliver.ensures.same;
  does = λ l r q h s t a.
      let z = (was_accepted l r (came q) c.args.answer.now a).0 in
      let p = passed l r (came q) z in
      done_as l r (came q) c.deliver.new.replica z (c.deliver.ensures.does l r q h s p.is_possible p.has_queue_room t);
}

pub returns-in_default : goal.returns-in_default
returns-in_default c = record { same = record { mem = refl; at = refl }; does = λ l r q h s t a. absurd (c.in_default.not-Came (was_accepted l r (came q) c.args.answer.now a).1) }
