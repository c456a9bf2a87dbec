-- The store: what stands at each key, a fold of the puts taken. Definitions only.
use Rattle.std.specs.Prelude.{ℕ, cond, ◌&&◌, List, [], ◌∷◌, replicate, filter, ◌==◌, slice_index_or, slice_set}
use Rattle.model.specs.Limits.{Limits}
use Rattle.model.specs.Clock.{Clock}
use Rattle.model.specs.Put.{Put, later, had, Body, key_of}

-- for each key none or one put
abbrev pub Store : Type 0
Store = List (List (Put Body))

-- nothing at any key
abbrev pub new_store : Limits → Store
new_store l = replicate l.keys []

-- what stands at a key
abbrev pub shown : Store → ℕ → List (Put Body)
shown s k = slice_index_or s k []

-- a put against what stands: the later stands
unfoldable pub stand : Put Body → List (Put Body) → List (Put Body)
stand p [] = p ∷ []
stand p (q ∷ qs) = cond (later p q) (p ∷ []) (q ∷ [])

-- a put is stored at its key
abbrev pub stored : Put Body → Store → Store
stored p s = slice_set s (key_of p.body) (stand p (shown s (key_of p.body)))

-- the puts taken are stored in the order of taking; the last taken comes first in the list
unfoldable pub stored_all : List (Put Body) → Store → Store
stored_all [] s = s
stored_all (p ∷ ps) s = stored p (stored_all ps s)

-- of some puts, those of a key that a clock has
abbrev pub of_key : ℕ → Clock → List (Put Body) → List (Put Body)
of_key k c ps = filter (λ p. (key_of p.body == k) && had c p) ps

-- the latest of some: none or one
unfoldable pub latest : List (Put Body) → List (Put Body)
latest [] = []
latest (p ∷ ps) = stand p (latest ps)
