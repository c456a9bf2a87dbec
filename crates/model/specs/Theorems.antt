-- The theorems. Each is a statement, and a function of src/ has it as its contract.
use Rattle.std.specs.Prelude.{◌≡◌, ℕ, ◌*◌, ◌<◌, ◌≤◌, Bool, true, false, ◌||◌, ◌⊎◌, ◌↔◌, List, [], ◌∷◌, length}
use Rattle.model.specs.Lists.{In}
use Rattle.model.specs.Limits.{Limits, GoodLimits}
use Rattle.model.specs.Clock.{below}
use Rattle.model.specs.Put.{Put, later, had, same_put, Body, key_of}
use Rattle.model.specs.Delivery.{ready, is_in}
use Rattle.model.specs.Store.{new_store, shown, stored_all, of_key, latest}
use Rattle.model.specs.Replica.{Replica, clock_of, Event, put, get, came, value, refusal, answer, after, replica, history}
use Rattle.model.specs.Cluster.{Cluster, clock_at, Reachable, trace}
use Rattle.model.specs.Convergence.{Turn, Rounds, ran_all, Pair, Covers, ask_rounds, all_pairs, RoundsApart}
use Rattle.model.specs.Program.{Program, memory, all_readable, AnswersRight}

-- OF ANY REPLICA, in any state
-- a refused event changes nothing
abbrev pub RefusalChangesNothing : Type 0
RefusalChangesNothing = (l : Limits) (r : Replica) (e : Event) → 0 < refusal l r e → after l r e ≡ r

-- a put that is had, or waits, and comes again changes nothing
abbrev pub AgainChangesNothing : Type 0
AgainChangesNothing = (l : Limits) (r : Replica) (p : Put Body) → (had (clock_of r) p || is_in p r.delivery.waiting) ≡ true → after l r (came p) ≡ r

-- no count ever falls
abbrev pub ClockMonotone : Type 0
ClockMonotone = (l : Limits) (r : Replica) (e : Event) → below (clock_of r) (clock_of (after l r e)) ≡ true

-- what stands after is the same put or a later one
unfoldable pub not_back : List (Put Body) → List (Put Body) → Bool
not_back [] qs = true
not_back (p ∷ ps) [] = false
not_back (p ∷ ps) (q ∷ qs) = same_put p q || later q p

-- what is shown at a key never goes back
abbrev pub ViewMonotone : Type 0
ViewMonotone = (l : Limits) (r : Replica) (e : Event) (k : ℕ) → not_back (shown r.store k) (shown (after l r e).store k) ≡ true

-- the store is the fold of the puts taken, after any events
abbrev pub StoreIsFold : Type 0
StoreIsFold = (l : Limits) (i : ℕ) (es : List Event) → (replica l i es).store ≡ stored_all (history l i es) (new_store l)

-- OF ANY REACHABLE CLUSTER
-- a replica has taken exactly the puts made that its clock has
abbrev pub TakenIsHad : Type 0
TakenIsHad =
    (l : Limits) (w : Cluster) (x : Reachable l w) (i : ℕ) (p : Put Body) →
    In p (history l i (trace l x i)) ↔ (In p w.made × (had (clock_at w i) p ≡ true))

-- and in causal order: of the puts taken, the last first, all that one had seen comes before it
abbrev pub InCausalOrder : List (Put Body) → List (Put Body) → Type 0
InCausalOrder ms [] = Unit {0}
InCausalOrder ms (p ∷ ts) = ((q : Put Body) → In q ms → had p.seen q ≡ true → In q ts) × InCausalOrder ms ts

-- every replica takes puts in causal order
abbrev pub CausalOrder : Type 0
CausalOrder = (l : Limits) (w : Cluster) (x : Reachable l w) (i : ℕ) → InCausalOrder w.made (history l i (trace l x i))

-- at each key the latest of all puts of that key that the replica has
abbrev pub ShowsLatest : Type 0
ShowsLatest =
    (l : Limits) (w : Cluster) (i k : ℕ) → Reachable l w → k < l.keys → l.supports 1 ≡ true →
    answer l (w.replica i) (get k) ≡ value (latest (of_key k (clock_at w i) w.made))

-- with a put all that it had seen; and all own puts
abbrev pub CausallyClosed : Type 0
CausallyClosed =
    (l : Limits) (w : Cluster) (i : ℕ) (p : Put Body) → Reachable l w → In p w.made →
    (had (clock_at w i) p ≡ true → below p.seen (clock_at w i) ≡ true) × (p.from ≡ i → had (clock_at w i) p ≡ true)

-- replicas that have the same show the same
abbrev pub SameClockSameView : Type 0
SameClockSameView =
    (l : Limits) (w : Cluster) (i j k : ℕ) → Reachable l w → clock_at w i ≡ clock_at w j →
    answer l (w.replica i) (get k) ≡ answer l (w.replica j) (get k)

-- a put is later than each that it had seen
abbrev pub SeenIsEarlier : Type 0
SeenIsEarlier = (l : Limits) (w : Cluster) (p q : Put Body) → Reachable l w → In p w.made → In q w.made → had q.seen p ≡ true → later q p ≡ true

-- of two puts one is the later
abbrev pub LaterIsTotal : Type 0
LaterIsTotal = (l : Limits) (w : Cluster) (p q : Put Body) → Reachable l w → In p w.made → In q w.made → (p ≡ q) ⊎ ((later p q ≡ true) ⊎ (later q p ≡ true))

-- an accepted put stands at once
abbrev pub ReadsOwnPut : Type 0
ReadsOwnPut =
    (l : Limits) (w : Cluster) (i : ℕ) (b : Body) → Reachable l w → refusal l (w.replica i) (put b) ≡ 0 →
    shown (after l (w.replica i) (put b)).store (key_of b) ≡ record { from = i; seen = clock_at w i; body = b } ∷ []

-- a put that is ready is taken when it comes, however full all is
abbrev pub ReadyIsTaken : Type 0
ReadyIsTaken =
    (l : Limits) (w : Cluster) (i : ℕ) (p : Put Body) → Reachable l w → l.supports 2 ≡ true → In p w.made → ready (w.replica i).delivery p ≡ true →
    (refusal l (w.replica i) (came p) ≡ 0) × (had (clock_of (after l (w.replica i) (came p))) p ≡ true)

-- a put that is no more in its replica's log is with all
abbrev pub PrunedIsEverywhere : Type 0
PrunedIsEverywhere =
    (l : Limits) (w : Cluster) (i : ℕ) (p : Put Body) → Reachable l w → In p w.made → (In p (w.replica p.from).delivery.log → ⊥) → i < l.replicas → had (clock_at w i) p ≡ true

-- CONVERGENCE
-- all replicas have the same clock, and answer every get in the same way
abbrev pub SameEverywhere : Limits → Cluster → Type 0
SameEverywhere l v =
    (i j : ℕ) → i < l.replicas → j < l.replicas →
    (clock_at v i ≡ clock_at v j) × ((k : ℕ) → answer l (v.replica i) (get k) ≡ answer l (v.replica j) (get k))

-- the events of an exchange
abbrev pub CanAsk : (ℕ → Bool) → Type 0
CanAsk can = (can 2 ≡ true) × (can 3 ≡ true) × (can 4 ≡ true)

-- after so many rounds all have and show the same, whatever else happens, if nobody puts
abbrev pub Converges : Type 0
Converges =
    (l : Limits) (w : Cluster) (rs : List (List Turn)) → CanAsk l.supports → Reachable l w → l.replicas * l.log_most ≤ length rs → Rounds l w rs →
    SameEverywhere l (ran_all l w rs)

-- such rounds can always happen
abbrev pub RoundsHappen : Type 0
RoundsHappen = (l : Limits) (w : Cluster) (n : ℕ) → CanAsk l.supports → Reachable l w → (rs : List (List Turn)) × (length rs ≡ n) × Rounds l w rs

-- also if each exchange of a round lies on another run between the same clusters
abbrev pub ConvergesApart : Type 0
ConvergesApart = (l : Limits) (w v : Cluster) → CanAsk l.supports → Reachable l w → RoundsApart l (l.replicas * l.log_most) w v → SameEverywhere l v

-- an instance: in each round the pairs of a list ask, one after the other; any list in which each pair stands
abbrev pub ConvergesByList : Type 0
ConvergesByList =
    (l : Limits) (w : Cluster) (asks : List Pair) → CanAsk l.supports → Reachable l w → Covers l asks →
    SameEverywhere l (ask_rounds (l.replicas * l.log_most) l asks w)

-- and the list of all pairs in a fixed order is one
abbrev pub ConvergesInOrder : Type 0
ConvergesInOrder =
    (l : Limits) (w : Cluster) → CanAsk l.supports → Reachable l w →
    SameEverywhere l (ask_rounds (l.replicas * l.log_most) l (all_pairs l.replicas l.replicas) w)

-- PROGRAMS
-- a program that is right answers in any life as the cluster's replica
abbrev pub ProgramIsReplica : Type 0
ProgramIsReplica =
    (can : ℕ → Bool) (f : Program) → AnswersRight can f → (l : Limits) → GoodLimits can l →
    (w : Cluster) (x : Reachable l w) (i : ℕ) (e : Event) → i < l.replicas → all_readable (e ∷ trace l x i) ≡ true →
    f.answers (memory f l i (trace l x i)) e ≡ answer l (w.replica i) e

-- so it shows the latest of what it has
abbrev pub ProgramShowsLatest : Type 0
ProgramShowsLatest =
    (can : ℕ → Bool) (f : Program) → AnswersRight can f → (l : Limits) → GoodLimits can l → can 1 ≡ true →
    (w : Cluster) (x : Reachable l w) (i k : ℕ) → i < l.replicas → k < l.keys → all_readable (get k ∷ trace l x i) ≡ true →
    f.answers (memory f l i (trace l x i)) (get k) ≡ value (latest (of_key k (clock_at w i) w.made))

-- where all show the same, the programs of any two replicas give the same answers to get
abbrev pub ProgramsAgree : Type 0
ProgramsAgree =
    (can : ℕ → Bool) (f g : Program) → AnswersRight can f → AnswersRight can g → (l : Limits) → GoodLimits can l →
    (v : Cluster) (x : Reachable l v) → SameEverywhere l v → (i j k : ℕ) → i < l.replicas → j < l.replicas →
    all_readable (get k ∷ trace l x i) ≡ true → all_readable (get k ∷ trace l x j) ≡ true →
    f.answers (memory f l i (trace l x i)) (get k) ≡ g.answers (memory g l j (trace l x j)) (get k)

-- and so they do after the rounds
abbrev pub ProgramsConverge : Type 0
ProgramsConverge =
    (can : ℕ → Bool) (f g : Program) → AnswersRight can f → AnswersRight can g → (l : Limits) → GoodLimits can l → CanAsk can →
    (w : Cluster) (rs : List (List Turn)) → Reachable l w → l.replicas * l.log_most ≤ length rs → Rounds l w rs →
    (x : Reachable l (ran_all l w rs)) (i j k : ℕ) → i < l.replicas → j < l.replicas →
    all_readable (get k ∷ trace l x i) ≡ true → all_readable (get k ∷ trace l x j) ≡ true →
    f.answers (memory f l i (trace l x i)) (get k) ≡ g.answers (memory g l j (trace l x j)) (get k)
