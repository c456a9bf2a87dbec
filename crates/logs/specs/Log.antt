-- The log by numbers: its puts go down one by one, so what leaves it and what is answered from it are found by their place. Definitions only.
use Rattle.std.specs.Prelude.{ℕ, ◌-◌, min, List, [], ◌∷◌, length}
use Rattle.model.specs.Clock.{Clock, at}
use Rattle.model.specs.Put.{Body}
use Rattle.model.specs.Delivery.{Delivery}

-- the smallest of s and what each of some clocks counts for i
unfoldable pub least : ℕ → ℕ → List Clock → ℕ
least s i [] = s
least s i (c ∷ cs) = least (min s (at c i)) i cs

-- how many of the log a clock lacks
abbrev pub lacked_of : Clock → Delivery Body → ℕ
lacked_of c d = min (at d.clock d.me - at c d.me) (length d.log)
