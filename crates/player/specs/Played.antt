-- What the player gets of opening and of a call. Definitions only.
use Rattle.std.specs.Prelude.{◌≡◌, ℕ, ◌<◌, ◌≤◌, Ok, Err, Result, List, [], length, Some, slice_index_or, slice_set}
use Rattle.model.specs.Replica.{refused}
use Rattle.stage.specs.declared.play.OpenError.{OpenError}
use Rattle.stage.specs.declared.play.OpenError.TheVariants.{OutOfRange, Io}
use Rattle.text.specs.Event.{Answer}
use Rattle.wire.specs.Answers.{read_answer}
use Rattle.memory.specs.Layout.{InRange}
use Rattle.memory.specs.Laws.{Opened}
use Rattle.memory.specs.declared.Limits.{Limits}
use Rattle.endpoint.specs.Call.{Calls}
use Rattle.messages.specs.Meaning.{answer_of}

-- in the memory m, the bytes s left m', and the bytes that answered them are the answer a
pub record Played (m s m' : List ℕ) (a : Answer) : Type 0 where
  pub bytes : List ℕ
  pub calls : Calls m s m' bytes
  pub says : read_answer bytes ≡ Some (answer_of a)

-- OF THE MEMORIES ms of all replicas that of replica i was called, and the others stay; or there is no replica i, and it is refused by 2
pub record PlayedAt (ms : List (List ℕ)) (i : ℕ) (s : List ℕ) (ms' : List (List ℕ)) (a : Answer) : Type 0 where
  pub there : i < length ms → (m : List ℕ) × (ms' ≡ slice_set ms i m) × Played (slice_index_or ms i []) s m a
  pub nowhere : length ms ≤ i → (ms' ≡ ms) × (answer_of a ≡ refused 2 0)

-- m is the memory of replica i, opened with the limits x
pub record New (x : Limits) (i : ℕ) (m : List ℕ) : Type 0 where
  pub lent : List ℕ
  pub opened : Opened x i lent m

-- ms are the memories of the first n replicas, so opened
pub record AllNew (x : Limits) (n : ℕ) (ms : List (List ℕ)) : Type 0 where
  pub many : length ms ≡ n
  pub each : (i : ℕ) → i < n → New x i (slice_index_or ms i [])

-- OPENING: all anew, where the limits are in range; else the memories stay
abbrev pub Anew : Result (Unit {0}) OpenError → Limits → List (List ℕ) → List (List ℕ) → Type 0
Anew (Ok done) x ms ms' = InRange x × AllNew x x.replicas ms'
Anew (Err OutOfRange) x ms ms' = (InRange x → ⊥) × (ms' ≡ ms)
Anew (Err (Io e)) x ms ms' = ms' ≡ ms
