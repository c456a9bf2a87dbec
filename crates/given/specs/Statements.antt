-- The statements in their first form, about the flat definitions; `can` says which events a build supports.
use Rattle.std.specs.Prelude.{◌≡◌, ℕ, zero, suc, ◌+◌, ◌*◌, ◌<◌, ◌≤◌, Bool, true, false, ◌&&◌, ◌||◌, ◌⊎◌, List, [], ◌∷◌, length, ◌==◌, nat_lt}
use Rattle.given.specs.Replica.{nth, Clock, at, no_more, Put, number, later, Limits, Replica, new_replica, Event, put, get, came, has, tell, garbled, Answer, refused, done, value, here, next_one, had, refusal, answer, after}
use Rattle.given.specs.Cluster.{replica_at, Cluster, meets, was_made, Reachable, of_key, latest}

-- a program of one replica: its memory, which is numbers; what an event leaves there; what it answers
pub record Program : Type 0 where
  pub opened : Limits → ℕ → List ℕ
  pub called : List ℕ → Event → List ℕ
  pub answers : List ℕ → Event → Answer

-- after some events, the last first
unfoldable pub memory : Program → Limits → ℕ → List Event → List ℕ
memory f l i [] = f.opened l i
memory f l i (e ∷ es) = f.called (memory f l i es) e

unfoldable pub replica : Limits → ℕ → List Event → Replica
replica l i [] = new_replica l i
replica l i (e ∷ es) = after l (replica l i es) e

abbrev pub eight : ℕ → Bool
eight n = nat_lt n 18446744073709551616

unfoldable pub bytes : List ℕ → Bool
bytes [] = true
bytes (x ∷ xs) = nat_lt x 256 && bytes xs

unfoldable pub eights : List ℕ → Bool
eights [] = true
eights (x ∷ xs) = eight x && eights xs

-- events that their bytes can carry
unfoldable pub readable : Event → Bool
readable (put k v) = eight k && bytes v
readable (get k) = eight k
readable (came p) = (eight p.key && bytes p.value) && (eight p.from && eights p.seen)
readable (has i c) = eight i && eights c
readable tell = true
readable (garbled n) = eight n

unfoldable pub all_readable : List Event → Bool
all_readable [] = true
all_readable (e ∷ es) = readable e && all_readable es

-- limits with which a program may be opened
abbrev pub GoodLimits : (ℕ → Bool) → Limits → Type 0
GoodLimits can l =
    (1 ≤ l.replicas) × (l.replicas ≤ 16) × (1 ≤ l.keys) × (l.keys ≤ 4096) × (1 ≤ l.log_most) × (l.log_most ≤ 1024) × (l.waiting_most ≤ 1024) × ((k : ℕ) → l.supports k ≡ can k)

-- after any events the program answers what the definitions say
abbrev pub AnswersRight : (ℕ → Bool) → Program → Type 0
AnswersRight can f =
    (l : Limits) (i : ℕ) (es : List Event) (e : Event) → GoodLimits can l → i < l.replicas → all_readable (e ∷ es) ≡ true → f.answers (memory f l i es) e ≡ answer l (replica l i es) e

-- a refused event leaves the memory as it was
abbrev pub RefusalKeepsMemory : (ℕ → Bool) → Program → Type 0
RefusalKeepsMemory can f =
    (l : Limits) (i : ℕ) (es : List Event) (e : Event) → GoodLimits can l → i < l.replicas → all_readable (e ∷ es) ≡ true → 0 < refusal l (replica l i es) e →
    f.called (memory f l i es) e ≡ memory f l i es

unfoldable pub all_below : ℕ → List ℕ → Bool
all_below b [] = true
all_below b (x ∷ xs) = nat_lt x b && all_below b xs

-- memory is bounded by the limits
abbrev pub MemoryBounded : (ℕ → Bool) → Program → Type 0
MemoryBounded can f =
    (l : Limits) (i : ℕ) (es : List Event) → GoodLimits can l → i < l.replicas → all_readable es ≡ true →
    (length (memory f l i es) ≤ 32 * (l.keys + (l.log_most + l.waiting_most)) + 512) × (all_below 18446744073709551616 (memory f l i es) ≡ true)

abbrev pub clock_of : Limits → Cluster → ℕ → Clock
clock_of l w i = (replica_at l i w.replicas).clock

-- at each key stands the latest of all puts of that key that the replica has
abbrev pub ShowsLatest : (ℕ → Bool) → Type 0
ShowsLatest can =
    (l : Limits) (w : Cluster) (i k : ℕ) → GoodLimits can l → Reachable l w → i < l.replicas → k < l.keys →
    answer l (replica_at l i w.replicas) (get k) ≡ value (latest (of_key k (clock_of l w i) w.made))

-- with a put a replica has all that the put's replica had seen; and it has its own puts
abbrev pub CausallyClosed : (ℕ → Bool) → Type 0
CausallyClosed can =
    (l : Limits) (w : Cluster) (i : ℕ) (p : Put) → GoodLimits can l → Reachable l w → i < l.replicas → was_made p w.made ≡ true →
    (had (clock_of l w i) p ≡ true → no_more p.seen (clock_of l w i) ≡ true) × (p.from ≡ i → had (clock_of l w i) p ≡ true)

-- replicas that have the same show the same
abbrev pub SameClockSameView : (ℕ → Bool) → Type 0
SameClockSameView can =
    (l : Limits) (w : Cluster) (i j k : ℕ) → GoodLimits can l → Reachable l w → i < l.replicas → j < l.replicas → k < l.keys → clock_of l w i ≡ clock_of l w j →
    answer l (replica_at l i w.replicas) (get k) ≡ answer l (replica_at l j w.replicas) (get k)

unfoldable pub come_all : Limits → ℕ → List Put → Cluster → Cluster
come_all l i [] w = w
come_all l i (p ∷ ps) w = come_all l i ps (meets l w i (came p))

unfoldable pub answered_puts : Answer → List Put
answered_puts (refused j k) = []
answered_puts (done ps) = ps
answered_puts (value ps) = []
answered_puts (here c) = []

-- i says what it has, j hears it, and what j answers comes to i, in that order
abbrev pub asking : Limits → ℕ → ℕ → Cluster → Cluster
asking l i j w =
    let t : Cluster = meets l w i tell in
    let a : Answer = answer l (replica_at l j t.replicas) (has i (clock_of l w i)) in
    come_all l i (answered_puts a) (meets l t j (has i (clock_of l w i)))

-- each replica asks each other one, one after the other; n times
unfoldable pub ask_each : Limits → ℕ → ℕ → Cluster → Cluster
ask_each l i zero w = w
ask_each l i (suc j) w = ask_each l i j (asking l i j w)

unfoldable pub all_ask : Limits → ℕ → Cluster → Cluster
all_ask l zero w = w
all_ask l (suc i) w = all_ask l i (ask_each l i l.replicas w)

unfoldable pub rounds : ℕ → Limits → Cluster → Cluster
rounds zero l w = w
rounds (suc n) l w = rounds n l (all_ask l l.replicas w)

-- after so many rounds all have and show the same
abbrev pub Converges : (ℕ → Bool) → Type 0
Converges can =
    (l : Limits) (w : Cluster) (i j : ℕ) → GoodLimits can l → can 2 ≡ true → can 3 ≡ true → can 4 ≡ true → Reachable l w → i < l.replicas → j < l.replicas →
    let v : Cluster = rounds (l.replicas * l.log_most) l w in (clock_of l v i ≡ clock_of l v j) × ((k : ℕ) → k < l.keys → answer l (replica_at l i v.replicas) (get k) ≡ answer l (replica_at l j v.replicas) (get k))

-- what was seen before is earlier
abbrev pub SeenIsEarlier : (ℕ → Bool) → Type 0
SeenIsEarlier can =
    (l : Limits) (w : Cluster) (p q : Put) → GoodLimits can l → Reachable l w → was_made p w.made ≡ true → was_made q w.made ≡ true → had q.seen p ≡ true → later q p ≡ true

-- of two puts one is the later
abbrev pub LaterIsTotal : (ℕ → Bool) → Type 0
LaterIsTotal can =
    (l : Limits) (w : Cluster) (p q : Put) → GoodLimits can l → Reachable l w → was_made p w.made ≡ true → was_made q w.made ≡ true → (p ≡ q) ⊎ ((later p q ≡ true) ⊎ (later q p ≡ true))

unfoldable pub not_back : List Put → List Put → Bool
not_back [] qs = true
not_back (p ∷ ps) [] = false
not_back (p ∷ ps) (q ∷ qs) = (p.from == q.from && number p == number q) || later q p

-- whatever happens, at a key there stands after it the same put or a later one
abbrev pub ViewMonotone : Type 0
ViewMonotone = (l : Limits) (h : Replica) (e : Event) (k : ℕ) → k < length h.store → not_back (nth [] h.store k) (nth [] (after l h e).store k) ≡ true

-- clocks only go on
abbrev pub ClockMonotone : Type 0
ClockMonotone = (l : Limits) (h : Replica) (e : Event) → no_more h.clock (after l h e).clock ≡ true

-- an own put stands at once
abbrev pub ReadsOwnPut : (ℕ → Bool) → Type 0
ReadsOwnPut can =
    (l : Limits) (w : Cluster) (i k : ℕ) (v : List ℕ) → GoodLimits can l → Reachable l w → i < l.replicas → refusal l (replica_at l i w.replicas) (put k v) ≡ 0 →
    nth [] (after l (replica_at l i w.replicas) (put k v)).store k ≡ record { key = k; value = v; from = i; seen = clock_of l w i } ∷ []

-- what is the next of its replica, and rests on nothing that lacks, is taken, however full all is
abbrev pub ReadyIsTaken : (ℕ → Bool) → Type 0
ReadyIsTaken can =
    (l : Limits) (w : Cluster) (i : ℕ) (p : Put) → GoodLimits can l → can 2 ≡ true → Reachable l w → i < l.replicas → was_made p w.made ≡ true → next_one (clock_of l w i) p ≡ true →
    (refusal l (replica_at l i w.replicas) (came p) ≡ 0) × (at (clock_of l w i) p.from < at (after l (replica_at l i w.replicas) (came p)).clock p.from)

unfoldable pub is_there : Put → List Put → Bool
is_there p [] = false
is_there p (q ∷ qs) = (p.from == q.from && number p == number q) || is_there p qs

-- what left its log is with all
abbrev pub PrunedIsEverywhere : (ℕ → Bool) → Type 0
PrunedIsEverywhere can =
    (l : Limits) (w : Cluster) (i : ℕ) (p : Put) → GoodLimits can l → Reachable l w → was_made p w.made ≡ true → p.from < l.replicas → is_there p (replica_at l p.from w.replicas).log ≡ false → i < l.replicas →
    had (clock_of l w i) p ≡ true

-- a refused event changes nothing
abbrev pub RefusalChangesNothing : Type 0
RefusalChangesNothing = (l : Limits) (h : Replica) (e : Event) → 0 < refusal l h e → after l h e ≡ h
