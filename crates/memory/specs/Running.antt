-- A program that opens its memory and carries on there, event after event. Definitions only.
use Rattle.std.specs.Prelude.{◌≡◌, ℕ, Bool, true, List, ◌++◌, length, Result}
use Rattle.model.specs.Limits.{Limits}
use Rattle.model.specs.Program.{Program}
use Rattle.model.specs.Replica.{Replica, Event, Answer, answer, after}
use Rattle.memory.specs.Layout.{InRange, code_limits, words}
use Rattle.memory.specs.Image.{encode}
use Rattle.memory.specs.Valid.{Valid}
use Rattle.memory.specs.Laws.{Opening}
use Rattle.memory.specs.declared.Layout.{Layout}
use Rattle.memory.specs.declared.OutOfRange.{OutOfRange}

-- every event is supported
abbrev pub all_events : ℕ → Bool
all_events k = true

-- for limits in range just the words needed were lent, and opened as the contract of `open` says
pub record Opens (f : Program) : Type 0 where
  pub lent : Limits → ℕ → List ℕ
  pub enough : (l : Limits) (i : ℕ) → InRange (code_limits l) → length (lent l i) ≡ words l
  pub opened_as : Limits → ℕ → Result Layout OutOfRange
  pub opening : (l : Limits) (i : ℕ) → Opening (code_limits l) i (lent l i) (f.opened l i) (opened_as l i)

-- an event happened in memory of which the replica takes the first words: they are the image of the state after it, which is valid, the rest stays, and the answer is the model's
pub record Stepped (l : Limits) (r : Replica) (e : Event) (rest m : List ℕ) (a : Answer) : Type 0 where
  pub valid : Valid l (after l r e)
  pub mem : m ≡ encode l (after l r e) ++ rest
  pub says : a ≡ answer l r e
