-- A life of a cluster of running replicas: each is its lent memory, opened by `open` and changed by nothing but calls on bytes. Definitions only.
use Rattle.std.specs.Prelude.{◌≡◌, ℕ, ◌<◌, List, [], ◌++◌, length, Some, None, Ok, Option}
use Rattle.model.specs.Limits.{Limits}
use Rattle.model.specs.Put.{Put, Body}
use Rattle.model.specs.Program.{word_bound}
use Rattle.model.specs.Replica.{Event, Answer}
use Rattle.model.specs.Cluster.{Told, Brought, made_by, told_by, update}
use Rattle.memory.specs.Layout.{code_limits, layout_of}
use Rattle.memory.specs.Laws.{Opening}
use Rattle.wire.specs.Bytes.{write_answer}
use Rattle.wire.specs.Reading.{read}
use Rattle.wire.specs.Answers.{read_answer}
use Rattle.wire.specs.Theorems.{AllBytes}
use Rattle.calls.specs.Answered.{AllSupported}
use Rattle.endpoint.specs.Call.{Calls}

-- the lent memory of each replica, and what the network may bring
pub record System : Type 0 where
  pub memory : ℕ → List ℕ  -- by the replica's number, below the limit
  pub made : List (Put Body)  -- all puts that were ever answered to a put, the last first
  pub told : List Told  -- and all clocks that were answered to a tell

-- each replica was opened in memory lent to it, and nothing happened yet
pub record Started (l : Limits) (w : System) : Type 0 where
  pub supports : AllSupported l
  pub lent : ℕ → List ℕ
  pub opened : (i : ℕ) → i < l.replicas → Opening (code_limits l) i (lent i) (w.memory i) (Ok (layout_of (code_limits l)))
  pub nothing_made : w.made ≡ []
  pub nothing_told : w.told ≡ []

-- what was made, and what was told, by the answer that bytes are
abbrev pub made_in : Event → Option Answer → List (Put Body)
made_in e (Some a) = made_by e a
made_in e None = []

abbrev pub told_in : ℕ → Option Answer → List Told
told_in i (Some a) = told_by i a
told_in i None = []

-- replica i was called with the bytes s, which left m and were answered by b
abbrev pub moved : System → ℕ → (s m b : List ℕ) → System
moved w i s m b = record { memory = update w.memory i m; made = made_in (read s) (read_answer b) ++ w.made; told = told_in i (read_answer b) ++ w.told }

-- bytes that can be lent
pub record Lent (s : List ℕ) : Type 0 where
  pub bytes : AllBytes s
  pub few : length s < word_bound

-- CALLS, ONE AFTER THE OTHER, from w to v: any bytes at any replica, as long as a put that comes was made and a clock that is heard was told. Each may come late, again or never
pub data Run (l : Limits) : System → System → Type 0 where
  stop : {w : System} → Run l w w
  then : {w v : System} (i : ℕ) (s m b : List ℕ) → i < l.replicas → Lent s → Brought w.made w.told (read s) → Calls (w.memory i) s m b → Run l (moved w i s m b) v → Run l w v

-- A LIFE: from opening to w
pub record Life (l : Limits) (w : System) : Type 0 where
  pub birth : System
  pub started : Started l birth
  pub lived : Run l birth w

-- called with the bytes of the event e, replica i answers the bytes b
pub record Answers (w : System) (i : ℕ) (e : Event) (b : List ℕ) : Type 0 where
  pub bytes : List ℕ
  pub lent : Lent bytes
  pub are : read bytes ≡ e
  pub left : List ℕ
  pub calls : Calls (w.memory i) bytes left b

-- the bytes b are the answer a: as it is written, and read back as it was
pub record Says (b : List ℕ) (a : Answer) : Type 0 where
  pub written : b ≡ write_answer a
  pub read_back : read_answer b ≡ Some a
