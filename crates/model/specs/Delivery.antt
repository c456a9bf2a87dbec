-- Causal delivery: which puts are taken, and in which order. It looks at `from` and `seen` of a put, never at its body. Definitions only.
use Rattle.std.specs.Prelude.{ℕ, zero, suc, Bool, true, false, cond, not, ◌&&◌, ◌||◌, List, [], ◌∷◌, ◌++◌, reverse, take, replicate, filter, ◌==◌, slice_index_or, slice_set}
use Rattle.model.specs.Limits.{Limits, reply_most}
use Rattle.model.specs.Clock.{Clock, new_clock, at, below, join, tick}
use Rattle.model.specs.Put.{Put, number, had, same_put}

-- what a replica keeps to decide which puts it takes
pub record Delivery (B : Type 0) : Type 0 where
  pub me : ℕ
  pub clock : Clock
  pub log : List (Put B)  -- own puts that somebody may lack, the last first
  pub waiting : List (Put B)  -- puts that came too early, in order of arrival
  pub known : List Clock  -- what each replica is known to have

-- replica i as it is opened
abbrev pub new_delivery : {B : Type 0} → Limits → ℕ → Delivery B
new_delivery l i = record { me = i; clock = new_clock l; log = []; waiting = []; known = replicate l.replicas (new_clock l) }

-- it is the next of its replica, and all that it had seen is here
abbrev pub ready : {B : Type 0} → Delivery B → Put B → Bool
ready d p = number p == suc (at d.clock p.from) && below p.seen d.clock

-- a put stands in a list
unfoldable pub is_in : {B : Type 0} → Put B → List (Put B) → Bool
is_in p [] = false
is_in p (q ∷ qs) = same_put p q || is_in p qs

-- it was taken, or it waits already
abbrev pub nothing_new : {B : Type 0} → Delivery B → Put B → Bool
nothing_new d p = had d.clock p || is_in p d.waiting

-- of some puts, those that a clock lacks
abbrev pub lacking : {B : Type 0} → Clock → List (Put B) → List (Put B)
lacking c ps = filter (λ p. not (had c p)) ps

-- each of some clocks has a put
unfoldable pub all_have : {B : Type 0} → List Clock → Put B → Bool
all_have [] p = true
all_have (c ∷ cs) p = had c p && all_have cs p

-- what all are known to have leaves the log
abbrev pub pruned : {B : Type 0} → List Clock → List (Put B) → List (Put B)
pruned cs ps = filter (λ p. not (all_have cs p)) ps

-- THE THREE CHANGES OF STATE. A put is counted: an own one goes to the log, and what is had now leaves the queue
abbrev pub counted : {B : Type 0} → Put B → Delivery B → Delivery B
counted p d =
    let c : Clock = tick d.clock p.from in
    let ks : List Clock = slice_set d.known d.me c in
    record { me = d.me; clock = c; log = pruned ks (cond (p.from == d.me) (p ∷ d.log) d.log); waiting = lacking c d.waiting; known = ks }

-- a put waits
abbrev pub enqueued : {B : Type 0} → Put B → Delivery B → Delivery B
enqueued p d = record { me = d.me; clock = d.clock; log = d.log; waiting = d.waiting ++ (p ∷ []); known = d.known }

-- replica j is known to have what c has
abbrev pub learned : {B : Type 0} → ℕ → Clock → Delivery B → Delivery B
learned j c d =
    let ks : List Clock = slice_set d.known j (join (slice_index_or d.known j []) c) in
    record { me = d.me; clock = d.clock; log = pruned ks d.log; waiting = d.waiting; known = ks }

-- A state with the puts that were taken on the way to it, the last first: what the store is built from.
pub record Run (B : Type 0) : Type 0 where
  pub now : Delivery B
  pub taken : List (Put B)

-- nothing taken yet
abbrev pub begin : {B : Type 0} → Delivery B → Run B
begin d = record { now = d; taken = [] }

-- one more is taken
abbrev pub take_one : {B : Type 0} → Put B → Run B → Run B
take_one p m = record { now = counted p m.now; taken = p ∷ m.taken }

-- the first of some that is ready: none or one
unfoldable pub first_ready : {B : Type 0} → Delivery B → List (Put B) → List (Put B)
first_ready d [] = []
first_ready d (p ∷ ps) = cond (ready d p) (p ∷ []) (first_ready d ps)

-- the first of some is taken, and then f; without one nothing
unfoldable pub take_then : {B : Type 0} → (Run B → Run B) → List (Put B) → Run B → Run B
take_then f [] m = m
take_then f (p ∷ ps) m = f (take_one p m)

-- waiting puts are taken, always the first that is ready, n at most
unfoldable pub settle : {B : Type 0} → ℕ → Run B → Run B
settle zero m = m
settle (suc n) m = take_then (settle n) (first_ready m.now m.now.waiting) m

-- a put came
abbrev pub deliver : {B : Type 0} → Limits → Put B → Delivery B → Run B
deliver l p d =
    cond (nothing_new d p) (begin d)
    (cond (ready d p) (settle l.waiting_most (take_one p (begin d))) (begin (enqueued p d)))

-- the put that this replica makes now
abbrev pub stamped : {B : Type 0} → B → Delivery B → Put B
stamped b d = record { from = d.me; seen = d.clock; body = b }

-- the logged puts that a clock lacks, the earliest first, no more than a reply holds
abbrev pub reply : {B : Type 0} → Clock → Delivery B → List (Put B)
reply c d = take reply_most (lacking c (reverse d.log))
