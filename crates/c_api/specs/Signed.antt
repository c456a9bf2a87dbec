-- What one signed number says of a call. Definitions only.
use Rattle.std.specs.Prelude.{◌≡◌, ℕ, List, ℤ, pos, negsuc, Some, None, Ok, Err, Option, Result}
use Rattle.memory.specs.declared.Limits.{Limits}
use Rattle.memory.specs.declared.Layout.{Layout}
use Rattle.memory.specs.declared.OutOfRange.{OutOfRange}
use Rattle.memory.specs.Laws.{Opening}
use Rattle.endpoint.specs.Call.{Called}

-- 0 for opened, -1 for refused
abbrev pub open_number : Result Layout OutOfRange → ℤ
open_number (Ok a) = pos 0
open_number (Err e) = negsuc 0

-- how many bytes the answer has, or -1
abbrev pub call_number : Option ℕ → ℤ
call_number (Some n) = pos n
call_number None = negsuc 0

-- what `open` promises, by its number
pub record OpenGives (r : ℤ) (x : Limits) (me : ℕ) (before after : List ℕ) : Type 0 where
  pub outcome : Result Layout OutOfRange
  pub number : r ≡ open_number outcome
  pub opening : Opening x me before after outcome

-- what `call` promises, by its number
pub record CallGives (r : ℤ) (m s m' before after : List ℕ) : Type 0 where
  pub outcome : Option ℕ
  pub number : r ≡ call_number outcome
  pub called : Called outcome m s m' before after
