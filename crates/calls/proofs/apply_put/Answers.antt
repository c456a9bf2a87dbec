use Rattle.std.proofs.Common.{◌≡◌, refl}
use Rattle.model.specs.Delivery.{stamped}
use Rattle.model.specs.Replica.{moves, put}
use Rattle.model.proofs.Replica.{passed}
use Rattle.model.proofs.Steps.{own_ready}
use Rattle.puts.specs.Values.{code_put}
use Rattle.delivery.proofs.Takes.{room_of, stamped_sound}
use Rattle.calls.proofs.Acts.{was_accepted}
use Rattle.calls.proofs.Events.{done_as}
use Rattle.calls.proofs.apply_put.Goals as goal

pub returns-in-Made : goal.returns-in-Made
unfolding moves
returns-in-Made c = record {
  same = c.take_own.ensures.same;
  does = λ l r b h bytes good a.
      let y = was_accepted l r (put b) c.args.answer.now a in
      let d = r.delivery in
      let room = room_of l r b (passed l r (put b) y.0).has_log_room in
      let same : c.in-Made.put ≡ code_put (stamped b d) = cc in
      done_as l r (put b) c.take_own.new.replica y.0 (c.take_own.ensures.does l r (stamped b d) h (stamped_sound l r b h.holds.valid.fits bytes good room.1) (own_ready b d) refl room.0 same);
}

pub returns-in_default : goal.returns-in_default
returns-in_default c = record { same = record { mem = refl; at = refl }; does = λ l r b h bytes good a. absurd (c.in_default.not-Made _ (was_accepted l r (put b) c.args.answer.now a).1) }
