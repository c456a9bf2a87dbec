-- Clusters in which the premises of the theorems hold, so that none speaks of nothing. Definitions only.
use Rattle.std.specs.Prelude.{◌≡◌, ℕ, ◌*◌, ◌<◌, true, false, List, [], ◌∷◌, length, take}
use Rattle.model.specs.Lists.{In}
use Rattle.model.specs.Limits.{Limits, GoodLimits}
use Rattle.model.specs.Put.{had, text}
use Rattle.model.specs.Delivery.{ready}
use Rattle.model.specs.Store.{of_key}
use Rattle.model.specs.Replica.{put, get, refusal}
use Rattle.model.specs.Cluster.{Cluster, new_cluster, clock_at, stepped, Reachable, trace}
use Rattle.model.specs.Convergence.{Turn, Rounds, ask_rounds, all_pairs}
use Rattle.model.specs.Program.{all_readable}
use Rattle.model.specs.Example.{three, a1, b1, c1, Row, rows, past}

-- the cluster of the worked example after n rows
unfoldable pub played : Cluster → List Row → Cluster
played w [] = w
played w (r ∷ rs) = played (past w r) rs

abbrev pub after_rows : ℕ → Cluster
after_rows n = played (new_cluster three) (take n rows)

-- two replicas, each with a put of its own that the other lacks
abbrev pub two : Limits
two = record { supports = λ k. true; replicas = 2; keys = 1; log_most = 1; waiting_most = 0 }

abbrev pub behind : Cluster
behind = stepped two (stepped two (new_cluster two) 0 (put (text 0 (1 ∷ [])))) 1 (put (text 0 (2 ∷ [])))

-- for each theorem the premises that it has beside reachability
pub record PremisesMet : Type 0 where
  -- reachable, with puts, gets, exchanges and a refusal behind it; so are the others below
  pub reachable : Reachable three (after_rows 15)
  pub reachable_1 : Reachable three (after_rows 1)
  pub reachable_9 : Reachable three (after_rows 9)
  pub reachable_14 : Reachable three (after_rows 14)
  -- RefusalChangesNothing
  pub refused : 0 < refusal three ((after_rows 10).replica 0) (put (text 1 (6 ∷ [])))
  -- AgainChangesNothing
  pub again : had (clock_at (after_rows 9) 1) c1 ≡ true
  -- ShowsLatest, for a key at which several were put
  pub shown : of_key 0 (clock_at (after_rows 15) 0) (after_rows 15).made ≡ c1 ∷ b1 ∷ a1 ∷ []
  -- CausallyClosed, SeenIsEarlier, LaterIsTotal
  pub made : In a1 (after_rows 15).made × In b1 (after_rows 15).made × In c1 (after_rows 15).made
  pub seen : had b1.seen a1 ≡ true
  pub taken : had (clock_at (after_rows 15) 2) b1 ≡ true
  -- SameClockSameView
  pub same_clock : clock_at (after_rows 9) 0 ≡ clock_at (after_rows 9) 1
  -- ReadsOwnPut, where others stand at that key
  pub accepted : refusal three ((after_rows 9).replica 0) (put (text 0 (4 ∷ []))) ≡ 0
  -- ReadyIsTaken
  pub came : In a1 (after_rows 1).made × (ready ((after_rows 1).replica 1).delivery a1 ≡ true)
  -- PrunedIsEverywhere
  pub pruned : In a1 (after_rows 14).made × (In a1 ((after_rows 14).replica 0).delivery.log → ⊥)
  -- Converges, where something is lacking; and what comes of it
  pub reachable_two : Reachable two behind
  pub rounds : (rs : List (List Turn)) × (length rs ≡ two.replicas * two.log_most) × Rounds two behind rs
  pub lacking : had (clock_at behind 0) (record { from = 1; seen = 0 ∷ 0 ∷ []; body = text 0 (2 ∷ []) }) ≡ false
  pub converged : clock_at (ask_rounds 2 two (all_pairs 2 2) behind) 0 ≡ 1 ∷ 1 ∷ []
  -- the program theorems
  pub good_limits : GoodLimits (λ k. true) three
  pub readable : all_readable (get 0 ∷ trace three reachable 0) ≡ true
