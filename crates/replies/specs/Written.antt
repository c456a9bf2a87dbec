-- How long an answer is, and where it stands. Definitions only.
use Rattle.std.specs.Prelude.{ℕ, ◌+◌, ◌*◌, ◌≤◌, List}
use Rattle.model.specs.Limits.{reply_most}
use Rattle.wire_out.specs.Written.{Wrote}

-- the longest put of an answer: its mark and length, its replica, sixteen counts, its key, sixty-four bytes
abbrev pub item_most : ℕ
item_most = 9 + (8 + (9 * 16 + 1) + (9 + 64))

-- the longest answer: a reply of as many puts as one holds
abbrev pub answer_most : ℕ
answer_most = 2 + reply_most * item_most

-- the first n bytes of a slice were written, the others are as before, and P is true of them
pub record Writes (n : ℕ) (before after : List ℕ) (P : List ℕ → Type 0) : Type 0 where
  pub bytes : List ℕ
  pub wrote : Wrote n 0 before after bytes
  pub most : n ≤ answer_most
  pub are : P bytes
