-- Vector clocks: how many puts of each replica. Definitions only.
use Rattle.std.specs.Prelude.{ℕ, suc, ◌+◌, Bool, true, cond, ◌&&◌, List, [], ◌∷◌, length, replicate, ◌==◌, nat_le, nat_lt, slice_index, slice_set}
use Rattle.model.specs.Limits.{Limits, count_bound}

-- a count for each replica, by number
abbrev pub Clock : Type 0
Clock = List ℕ

-- nothing of any replica
abbrev pub new_clock : Limits → Clock
new_clock l = replicate l.replicas 0

-- the count for replica i; 0 past the end
abbrev pub at : Clock → ℕ → ℕ
at c i = slice_index c i

-- all counts together
unfoldable pub sum : Clock → ℕ
sum [] = 0
sum (n ∷ ns) = n + sum ns

-- each count of the first is at most that of the second
unfoldable pub below : Clock → Clock → Bool
below [] ds = true
below (c ∷ cs) [] = c == 0 && below cs []
below (c ∷ cs) (d ∷ ds) = nat_le c d && below cs ds

-- the larger of each count, as long as the first
unfoldable pub join : Clock → Clock → Clock
join [] ds = []
join (c ∷ cs) [] = c ∷ join cs []
join (c ∷ cs) (d ∷ ds) = cond (nat_le c d) d c ∷ join cs ds

-- one more put of replica i
abbrev pub tick : Clock → ℕ → Clock
tick c i = slice_set c i (suc (at c i))

-- each count is in range
unfoldable pub small : Clock → Bool
small [] = true
small (n ∷ ns) = nat_lt n count_bound && small ns

-- a count for each replica, in range
abbrev pub good_clock : Limits → Clock → Bool
good_clock l c = length c == l.replicas && small c
