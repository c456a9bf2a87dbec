-- What a call says, and what a program is whose memory is opened and called so. Definitions only.
use Rattle.std.specs.Prelude.{◌≡◌, ℕ, true, List, ◌++◌, Err, Result}
use Rattle.model.specs.Limits.{Limits}
use Rattle.model.specs.Program.{Program, readable, all_below, word_bound}
use Rattle.model.specs.Replica.{Replica, Event}
use Rattle.memory.specs.Layout.{Room, limits_at, me_at}
use Rattle.memory.specs.Image.{encode}
use Rattle.memory.specs.Valid.{Valid}
use Rattle.memory.specs.Running.{Opens, Stepped}
use Rattle.wire.specs.Reading.{read}
use Rattle.wire.specs.Bytes.{write_event}
use Rattle.calls.specs.Answered.{AllSupported}
use Rattle.calls.specs.declared.Reason.{Reason}
use Rattle.calls.specs.declared.Reason.TheVariants.{OutOfRange}
use Rattle.replica.specs.Answered.{Answer, says_in}

-- WHAT A CALL SAYS of the memory m and the bytes s: the memory is then m', and the answer a. This is the contract of `step`
pub record Called (m s m' : List ℕ) (a : Result Answer Reason) : Type 0 where
  pub right : (l : Limits) (r : Replica) (rest : List ℕ) → AllSupported l → Valid l r → m ≡ encode l r ++ rest → Stepped l r (read s) rest m' (says_in l.replicas a)
  pub foreign : (Room (limits_at m) (me_at m) m → ⊥) → (a ≡ Err OutOfRange) × (m' ≡ m)

-- A PROGRAM READ OFF THE CONTRACTS of `open` and `step`: its memory is opened; an event that bytes can carry is called by its bytes; and the memory then, and the answer for as many replicas as its header says, are what the contracts say
pub record Runs (f : Program) : Type 0 where
  pub opens : Opens f
  pub answered_as : List ℕ → Event → Result Answer Reason
  pub calling : (m : List ℕ) (e : Event) → all_below word_bound m ≡ true → readable e ≡ true → Called m (write_event e) (f.called m e) (answered_as m e)
  pub answering : (m : List ℕ) (e : Event) → f.answers m e ≡ says_in (limits_at m).replicas (answered_as m e)
