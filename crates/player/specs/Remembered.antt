-- The puts made in a play, by replica and number. Definitions only.
use Rattle.std.specs.Prelude.{ℕ, zero, suc, List, [], ◌∷◌, ◌++◌, map, take, drop, vec_items, Vec, slice_index_or, slice_set}
use Rattle.std.specs.declared.alloc.Global.{Global}

-- for each replica the bytes of its puts, the first first
abbrev pub remembered : Vec (Vec (Vec ℕ Global) Global) Global → List (List (List ℕ))
remembered puts = map (λ v. map vec_items (vec_items v)) (vec_items puts)

-- put number n of replica j, from 1: none or one
abbrev pub put_made : List (List (List ℕ)) → ℕ → ℕ → List (List ℕ)
put_made pss j zero = []
put_made pss j (suc n) = take 1 (drop n (slice_index_or pss j []))

-- one more put of replica j; nothing changes, if there is no such replica
abbrev pub one_more : List (List (List ℕ)) → ℕ → List ℕ → List (List (List ℕ))
one_more pss j b = slice_set pss j (slice_index_or pss j [] ++ (b ∷ []))
