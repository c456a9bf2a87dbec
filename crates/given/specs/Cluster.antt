-- All replicas in a list, and a network that delays, repeats and loses messages, with a constructor for each kind of event. Definitions only.
use Rattle.std.specs.Prelude.{◌≡◌, ℕ, zero, suc, ◌<◌, Bool, true, false, ◌&&◌, ◌||◌, List, [], ◌∷◌, ◌++◌, ◌==◌}
use Rattle.given.specs.Replica.{pick, Clock, Put, Limits, Replica, new_replica, Event, put, get, came, has, tell, garbled, Answer, refused, done, value, here, had, better, answer, after}

unfoldable pub replica_at : Limits → ℕ → List Replica → Replica
replica_at l i [] = new_replica l i
replica_at l zero (h ∷ hs) = h
replica_at l (suc i) (h ∷ hs) = replica_at l i hs

unfoldable pub set_replica : ℕ → Replica → List Replica → List Replica
set_replica i h [] = []
set_replica zero h (x ∷ xs) = h ∷ xs
set_replica (suc i) h (x ∷ xs) = x ∷ set_replica i h xs

unfoldable pub all_new : Limits → ℕ → ℕ → List Replica
all_new l zero i = []
all_new l (suc n) i = new_replica l i ∷ all_new l n (suc i)

-- what a replica said that it has
pub record Said : Type 0 where
  pub from : ℕ
  pub clock : Clock

-- the replicas, all puts that were ever made, the last first, and all that replicas ever said
pub record Cluster : Type 0 where
  pub replicas : List Replica
  pub made : List Put
  pub said : List Said

abbrev pub new_cluster : Limits → Cluster
new_cluster l = record { replicas = all_new l l.replicas 0; made = []; said = [] }

unfoldable pub puts_of : Answer → List Put
puts_of (refused j k) = []
puts_of (done ps) = ps
puts_of (value ps) = []
puts_of (here c) = []

unfoldable pub is_put : Event → Bool
is_put (put k v) = true
is_put (get k) = false
is_put (came p) = false
is_put (has i c) = false
is_put tell = false
is_put (garbled n) = false

unfoldable pub said_by : ℕ → Answer → List Said
said_by i (refused j k) = []
said_by i (done ps) = []
said_by i (value ps) = []
said_by i (here c) = record { from = i; clock = c } ∷ []

-- an event at replica i
abbrev pub meets : Limits → Cluster → ℕ → Event → Cluster
meets l w i e =
    let h : Replica = replica_at l i w.replicas in
    let a : Answer = answer l h e in
    record { replicas = set_replica i (after l h e) w.replicas; made = pick (is_put e) (puts_of a) [] ++ w.made; said = said_by i a ++ w.said }

unfoldable pub same_text : List ℕ → List ℕ → Bool
same_text [] [] = true
same_text [] (y ∷ ys) = false
same_text (x ∷ xs) [] = false
same_text (x ∷ xs) (y ∷ ys) = x == y && same_text xs ys

abbrev pub same_all : Put → Put → Bool
same_all p q = (p.key == q.key && p.from == q.from) && (same_text p.value q.value && same_text p.seen q.seen)

unfoldable pub was_made : Put → List Put → Bool
was_made p [] = false
was_made p (q ∷ qs) = same_all p q || was_made p qs

unfoldable pub was_said : ℕ → Clock → List Said → Bool
was_said i c [] = false
was_said i c (s ∷ ss) = (i == s.from && same_text c s.clock) || was_said i c ss

-- Everything that can happen, in any order: somebody puts or gets at a replica, or it is asked what it has; a put that was made comes; what a replica once said comes.
pub data Reachable (l : Limits) : Cluster → Type 0 where
  new : Reachable l (new_cluster l)
  puts : {w : Cluster} (i k : ℕ) (v : List ℕ) → Reachable l w → i < l.replicas → Reachable l (meets l w i (put k v))
  gets : {w : Cluster} (i k : ℕ) → Reachable l w → i < l.replicas → Reachable l (meets l w i (get k))
  comes : {w : Cluster} (i : ℕ) (p : Put) → Reachable l w → i < l.replicas → was_made p w.made ≡ true → Reachable l (meets l w i (came p))
  hears : {w : Cluster} (i j : ℕ) (c : Clock) → Reachable l w → i < l.replicas → was_said j c w.said ≡ true → Reachable l (meets l w i (has j c))
  tells : {w : Cluster} (i : ℕ) → Reachable l w → i < l.replicas → Reachable l (meets l w i tell)

-- of all puts, those of a key that a clock has; and the latest of some
unfoldable pub of_key : ℕ → Clock → List Put → List Put
of_key k c [] = []
of_key k c (p ∷ ps) = pick (p.key == k && had c p) (p ∷ of_key k c ps) (of_key k c ps)

unfoldable pub latest : List Put → List Put
latest [] = []
latest (p ∷ ps) = better p (latest ps)
