-- What bytes are at a replica: an event that can happen there, or the reason why not. Definitions only.
use Rattle.std.specs.Prelude.{◌≡◌, ℕ, true, List, Ok, Err, Result}
use Rattle.model.specs.Limits.{Limits}
use Rattle.model.specs.Program.{readable}
use Rattle.model.specs.Replica.{Replica, Event, legible, in_range}
use Rattle.wire.specs.Reading.{read}
use Rattle.ranges.specs.Checked.{Checked, code_event}
use Rattle.logs.specs.State.{Laid}
use Rattle.logs.specs.declared.place.Place.{Place}
use Rattle.calls.specs.Answered.{code_answer}
use Rattle.calls.specs.declared.Reason.{Reason}

-- x is the event e, which bytes can carry and whose numbers are in range
pub record Comes (l : Limits) (e : Event) (x : Checked) : Type 0 where
  pub legible : legible e ≡ true
  pub carried : readable e ≡ true
  pub in_range : in_range l e ≡ true
  pub event : x ≡ code_event e

-- the bytes s are such an event x, for the replica whose parts lie at p
pub record Enters (l : Limits) (r : Replica) (s : List ℕ) (p : Place) (x : Checked) : Type 0 where
  pub laid : Laid l r.delivery.me p
  pub comes : Comes l (read s) x

-- or the rules refuse them, for that reason
abbrev pub Entered : Limits → Replica → List ℕ → Result (Place × Checked) Reason → Type 0
Entered l r s (Ok x) = Enters l r s x.0 x.1
Entered l r s (Err w) = Err w ≡ code_answer l r (read s)
