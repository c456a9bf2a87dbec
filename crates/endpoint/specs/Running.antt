-- A program of one replica, read off the contracts of `open` and `call`. Definitions only.
use Rattle.std.specs.Prelude.{◌≡◌, ℕ, true, List, Some}
use Rattle.model.specs.Program.{Program, readable, all_below, word_bound}
use Rattle.model.specs.Replica.{Event, Answer}
use Rattle.memory.specs.Running.{Opens}
use Rattle.wire.specs.Bytes.{write_event}
use Rattle.wire.specs.Answers.{read_answer}
use Rattle.endpoint.specs.Call.{Calls}

-- its memory is opened; an event that bytes can carry is called by its bytes; the memory then is what the contracts say, and the answer is what its bytes are read as
pub record Runs (f : Program) : Type 0 where
  pub opens : Opens f
  pub bytes : List ℕ → Event → List ℕ
  pub calling : (m : List ℕ) (e : Event) → all_below word_bound m ≡ true → readable e ≡ true → Calls m (write_event e) (f.called m e) (bytes m e)
  pub answering : (m : List ℕ) (e : Event) (a : Answer) → read_answer (bytes m e) ≡ Some a → f.answers m e ≡ a
