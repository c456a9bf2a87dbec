-- What is written part by part. A function of src/ has it as its contract.
use Rattle.std.specs.Prelude.{◌≡◌, ℕ, ◌+◌, ◌≤◌, List, [], ◌∷◌, ◌++◌, length, drop}
use Rattle.std.specs.List.{flat_map}
use Rattle.model.specs.Put.{Put, Body}
use Rattle.model.specs.Replica.{puts}
use Rattle.wire.specs.Bytes.{write_answer, write_item}
use Rattle.wire_out.specs.Written.{Wrote}

-- an answer of puts is its number, the puts one after the other, and the end; one write after another is one write; and a write from the beginning on gives the first bytes
pub record PutsByParts : Type 0 where
  pub parts : (ps : List (Put Body)) → write_answer (puts ps) ≡ (1 ∷ []) ++ (flat_map write_item ps ++ (0 ∷ []))
  pub next : {s0 s1 s2 w v : List ℕ} {at r r2 : ℕ} → Wrote r at s0 s1 w → Wrote r2 r s1 s2 v → at + length w ≤ length s0 → Wrote r2 at s0 s2 (w ++ v)
  pub first : {s t w : List ℕ} {r : ℕ} → Wrote r 0 s t w → (r ≡ length w) × (t ≡ w ++ drop r s)
