-- What the values of the code stand for: clocks of sixteen counts, texts of sixty-four bytes, puts of both. Definitions only.
use Rattle.std.specs.Prelude.{ℕ, ◌<◌, ◌≤◌, List, ◌++◌, length, take, replicate, slice_index}
use Rattle.model.specs.Limits.{count_bound, value_most}
use Rattle.model.specs.Clock.{Clock, at}
use Rattle.model.specs.Put as model
use Rattle.puts.specs.declared.Clock.{Clock as CodeClock}
use Rattle.puts.specs.declared.Text.{Text}
use Rattle.puts.specs.declared.event.Put.{Put as PutOf}

-- a clock of the code has so many counts
abbrev pub clock_size : ℕ
clock_size = 16

-- each count is in range
abbrev pub Small : Clock → Type 0
Small c = (i : ℕ) → at c i < count_bound

-- n numbers, whatever there is: filled up with zeros
unfoldable pub pad : ℕ → List ℕ → List ℕ
pad n xs = take n (xs ++ replicate n 0)

-- a put of the code
abbrev pub Put : Type 0
Put = PutOf CodeClock Text

-- FROM THE CODE TO THE MODEL: the bytes of a value
abbrev pub value_in : Text → List ℕ
value_in t = take t.len t.bytes

-- a put of sixteen replicas
abbrev pub put_of : Put → model.Put model.Body
put_of p = record { from = p.from; seen = p.seen.counts; body = model.text p.key (value_in p.value) }

-- and of n
abbrev pub narrow : {B : Type 0} → ℕ → model.Put B → model.Put B
narrow n p = record { from = p.from; seen = take n p.seen; body = p.body }

-- FROM THE MODEL TO THE CODE: a clock
abbrev pub code_clock : Clock → CodeClock
code_clock c = record { counts = pad clock_size c }

-- a value
abbrev pub code_text : List ℕ → Text
code_text v = record { len = length v; bytes = pad value_most v }

-- a put
abbrev pub code_put : model.Put model.Body → Put
code_put q = record { from = q.from; seen = code_clock q.seen; key = model.key_of q.body; value = code_text (model.value_of q.body) }

-- a list of bytes
abbrev pub Bytes : List ℕ → Type 0
Bytes bs = (i : ℕ) → slice_index bs i < 256

-- a put that the code holds whole
pub record Fit (q : model.Put model.Body) : Type 0 where
  pub value : length (model.value_of q.body) ≤ value_most
  pub bytes : Bytes (model.value_of q.body)
  pub seen : length q.seen ≤ clock_size
  pub number : model.number q < count_bound
