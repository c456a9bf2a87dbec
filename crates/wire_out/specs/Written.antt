-- Bytes written over others. Definitions only.
use Rattle.std.specs.Prelude.{◌≡◌, ℕ, ◌+◌, ◌<◌, ◌≤◌, min, List, ◌++◌, length, take, drop, Option, MatchOption}
use Rattle.wire_out.specs.declared.writer.Writer.{Writer}

-- s with w over it, from at on
unfoldable pub over : List ℕ → ℕ → List ℕ → List ℕ
over s at w = take at s ++ (w ++ drop (at + length w) s)

-- w was written from at on, and r is where it ends
pub record Wrote (r at : ℕ) (before after w : List ℕ) : Type 0 where
  pub end : r ≡ at + length w
  pub bytes : after ≡ over before at w

-- n more bytes fit
abbrev pub HasRoom : Writer → ℕ → Type 0
HasRoom p n = p.at + n ≤ length p.out.now

-- w was written by p, which q is afterwards, over the same slice
pub record Adds (p q : Writer) (w : List ℕ) : Type 0 where
  pub same : q.out.ghost_name ≡ p.out.ghost_name
  pub wrote : Wrote q.at p.at p.out.now q.out.now w
  pub within : q.at ≤ length p.out.now
  pub long : length q.out.now ≡ length p.out.now

-- w was written from at on; or there is no room for it, and nothing was
abbrev pub Appended : Option ℕ → ℕ → List ℕ → List ℕ → List ℕ → Type 0
Appended r at before after w = MatchOption r ((length before < at + length w) × (after ≡ before)) (λ n. Wrote n at before after w × (n ≤ length before))

-- w is the first bytes, and the others are as before; or there is no room for it, and all are
abbrev pub Written : Option ℕ → List ℕ → List ℕ → List ℕ → Type 0
Written r before after w = MatchOption r ((length before < length w) × (after ≡ before)) (λ n. (n ≡ length w) × (after ≡ w ++ drop n before))

-- a length; the largest number, if it is larger
abbrev pub capped : ℕ → ℕ
capped n = min n 18446744073709551615
