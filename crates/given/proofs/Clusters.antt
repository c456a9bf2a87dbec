-- A flat cluster and a cluster of the model go through events together, so whatever is reachable there is reachable here.
use Rattle.std.proofs.Common.{◌≡◌, ℕ, zero, suc, ◌+◌, ◌<◌, true, ◌&&◌, eqb, ◌≢◌, List, [], ◌∷◌, ◌++◌, map, length, sym, refl, ap, ◌∙◌, inl, inr, arith}
use borrow.Author.Tests.{clash}
use Rattle.std.proofs.lemmas.Bool.Decides.{nat_tests}
use Rattle.std.proofs.lemmas.Bool.{or_cases}
use Rattle.std.proofs.lemmas.List.{map-append}
use Rattle.model.specs.Lists.{In}
use Rattle.model.specs.Clock.{Clock}
use Rattle.model.specs.Put.{text}
use Rattle.model.specs.Replica.{answer, after}
use Rattle.model.specs.Cluster.{Told, Cluster, new_cluster, update, is_put, puts_of, made_by, told_by, stepped, Allowed, Reachable, start, step}
use Rattle.model.proofs.Lists.{update_split}
use Rattle.given.specs.Translation.{limits, lift, up, event, lifted}
use Rattle.given.proofs.Parts.{lift_pick}
use Rattle.given.proofs.Simulation.{answer_is, after_is, new_is}
use Rattle.given.specs.Replica as f
use Rattle.given.specs.Cluster as g

abbrev told : g.Said → Told
told t = record { who = t.from; clock = t.clock }

pub record Same (l : f.Limits) (w : g.Cluster) (v : Cluster) : Type 0 where
  pub long : length w.replicas ≡ l.replicas
  pub replica : (i : ℕ) → i < l.replicas → up (g.replica_at l i w.replicas) ≡ v.replica i
  pub made : map lift w.made ≡ v.made
  pub told : map told w.said ≡ v.told

-- THE LIST OF REPLICAS
at_new : (l : f.Limits) (n i j : ℕ) → j < n → g.replica_at l j (g.all_new l n i) ≡ f.new_replica l (i + j)
unfolding g.replica_at g.all_new
at_new l zero i j b = absurd (omega arith)
at_new l (suc n) i zero b = ap (f.new_replica l) (omega arith)
at_new l (suc n) i (suc j) b = at_new l n (suc i) j (omega arith) ∙ ap (f.new_replica l) (omega arith)

length_new : (l : f.Limits) (n i : ℕ) → length (g.all_new l n i) ≡ n
unfolding g.all_new
length_new l zero i = refl
length_new l (suc n) i = ap suc (length_new l n (suc i))

length_set_replica : (i : ℕ) (h : f.Replica) (hs : List f.Replica) → length (g.set_replica i h hs) ≡ length hs
unfolding g.set_replica
length_set_replica i h [] = refl
length_set_replica zero h (x ∷ hs) = refl
length_set_replica (suc i) h (x ∷ hs) = ap suc (length_set_replica i h hs)

set_at_same : (l : f.Limits) (i : ℕ) (h : f.Replica) (hs : List f.Replica) → i < length hs → g.replica_at l i (g.set_replica i h hs) ≡ h
unfolding g.set_replica g.replica_at
set_at_same l i h [] b = absurd (omega arith)
set_at_same l zero h (x ∷ hs) b = refl
set_at_same l (suc i) h (x ∷ hs) b = set_at_same l i h hs (omega arith)

set_at_other : (l : f.Limits) (i j : ℕ) (h : f.Replica) (hs : List f.Replica) → i ≢ j → g.replica_at l j (g.set_replica i h hs) ≡ g.replica_at l j hs
unfolding g.set_replica g.replica_at
set_at_other l i j h [] n = refl
set_at_other l zero zero h (x ∷ hs) n = absurd (n refl)
set_at_other l zero (suc j) h (x ∷ hs) n = refl
set_at_other l (suc i) zero h (x ∷ hs) n = refl
set_at_other l (suc i) (suc j) h (x ∷ hs) n = set_at_other l i j h hs (λ e. n (ap suc e))

-- WHAT AN ANSWER ADDS
pub puts_of_is : (a : f.Answer) → map lift (g.puts_of a) ≡ puts_of (lifted a)
unfolding g.puts_of puts_of
puts_of_is (f.refused n k) = refl
puts_of_is (f.done ps) = refl
puts_of_is (f.value ps) = refl
puts_of_is (f.here c) = refl

is_put_is : (e : f.Event) → g.is_put e ≡ is_put (event e)
unfolding g.is_put is_put
is_put_is (f.put k v) = refl
is_put_is (f.get k) = refl
is_put_is (f.came p) = refl
is_put_is (f.has i c) = refl
is_put_is f.tell = refl
is_put_is (f.garbled n) = refl

told_by_is : (i : ℕ) (a : f.Answer) → map told (g.said_by i a) ≡ told_by i (lifted a)
unfolding g.said_by told_by
told_by_is i (f.refused n k) = refl
told_by_is i (f.done ps) = refl
told_by_is i (f.value ps) = refl
told_by_is i (f.here c) = refl

-- AN EVENT
pub step_is : (l : f.Limits) (w : g.Cluster) (v : Cluster) (i : ℕ) (e : f.Event) → Same l w v → i < l.replicas → Same l (g.meets l w i e) (stepped (limits l) v i (event e))
step_is l w v i e s b = record { long = length_set_replica i (f.after l h e) w.replicas ∙ s.long; replica = re; made = ma; told = te }
  where
    h : f.Replica
    h = g.replica_at l i w.replicas

    now : up (f.after l h e) ≡ after (limits l) (v.replica i) (event e)
    now = after_is l h e ∙ ap (λ r. after (limits l) r (event e)) (s.replica i b)

    says : lifted (f.answer l h e) ≡ answer (limits l) (v.replica i) (event e)
    says = answer_is l h e ∙ ap (λ r. answer (limits l) r (event e)) (s.replica i b)

    re : (j : ℕ) → j < l.replicas → up (g.replica_at l j (g.set_replica i (f.after l h e) w.replicas)) ≡ update v.replica i (after (limits l) (v.replica i) (event e)) j
    re j bj = update_split (λ z. up (g.replica_at l j (g.set_replica i (f.after l h e) w.replicas)) ≡ z) v.replica i (after (limits l) (v.replica i) (event e)) j
        (λ d. ap (λ k. up (g.replica_at l k (g.set_replica i (f.after l h e) w.replicas))) (sym d) ∙ (ap up (set_at_same l i (f.after l h e) w.replicas (omega (arith, s.long))) ∙ now))
        (λ d. ap up (set_at_other l i j (f.after l h e) w.replicas d) ∙ s.replica j bj)

    ma : map lift (f.pick (g.is_put e) (g.puts_of (f.answer l h e)) [] ++ w.made) ≡ made_by (event e) (answer (limits l) (v.replica i) (event e)) ++ v.made
    ma =
        map-append lift (f.pick (g.is_put e) (g.puts_of (f.answer l h e)) []) w.made
        ∙ cc (lift_pick (g.is_put e) (is_put (event e)) (g.puts_of (f.answer l h e)) [] (is_put_is e), puts_of_is (f.answer l h e), says, s.made)

    te : map told (g.said_by i (f.answer l h e) ++ w.said) ≡ told_by i (answer (limits l) (v.replica i) (event e)) ++ v.told
    te = map-append told (g.said_by i (f.answer l h e)) w.said ∙ cc (told_by_is i (f.answer l h e), says, s.told)

-- WHAT WAS MADE AND SAID
list_same : (xs ys : List ℕ) → g.same_text xs ys ≡ true → xs ≡ ys
unfolding g.same_text
list_same [] [] e = refl
list_same [] (y ∷ ys) e = absurd (clash e)
list_same (x ∷ xs) [] e = absurd (clash e)
list_same (x ∷ xs) (y ∷ ys) e =
    let a : x ≡ y = grind (arith, nat_tests) in
    let b : xs ≡ ys = list_same xs ys (grind arith) in
    λ n. a n ∷ b n

pub made_in : (p : f.Put) (ms : List f.Put) → g.was_made p ms ≡ true → In (lift p) (map lift ms)
unfolding g.was_made
made_in p [] e = absurd (clash e)
made_in p (q ∷ ms) e =
    elim (or_cases (g.same_all p q) (g.was_made p ms) e) [
      | inr a ↦ inr (made_in p ms a)
      | inl a ↦
          (let k : p.key ≡ q.key = grind (arith, nat_tests) in
          let i : p.from ≡ q.from = grind (arith, nat_tests) in
          let t : p.value ≡ q.value = list_same p.value q.value (grind arith) in
          let c : p.seen ≡ q.seen = list_same p.seen q.seen (grind arith) in
          inl (λ n. record { from = i n; seen = c n; body = text (k n) (t n) }))
    ]

said_in : (j : ℕ) (c : Clock) (ts : List g.Said) → g.was_said j c ts ≡ true → In (record { who = j; clock = c }) (map told ts)
unfolding g.was_said
said_in j c [] e = absurd (clash e)
said_in j c (t ∷ ts) e =
    elim (or_cases (eqb j t.from && g.same_text c t.clock) (g.was_said j c ts) e) [
      | inr a ↦ inr (said_in j c ts a)
      | inl a ↦
          (let i : j ≡ t.from = grind (arith, nat_tests) in
          let d : c ≡ t.clock = list_same c t.clock (grind arith) in
          inl (λ n. record { who = i n; clock = d n }))
    ]

-- REACHABLE CLUSTERS
pub record Image (l : f.Limits) (w : g.Cluster) : Type 0 where
  pub cluster : Cluster
  pub reachable : Reachable (limits l) cluster
  pub same : Same l w cluster

stepped_image : (l : f.Limits) (w : g.Cluster) (i : ℕ) (e : f.Event) (m : Image l w) → i < l.replicas → Allowed m.cluster (event e) → Image l (g.meets l w i e)
stepped_image l w i e m b a = record { cluster = stepped (limits l) m.cluster i (event e); reachable = step i (event e) m.reachable b a; same = step_is l w m.cluster i e m.same b }

pub image : (l : f.Limits) {w : g.Cluster} → g.Reachable l w → Image l w
image l g.new =
    record {
      cluster = new_cluster (limits l);
      reachable = start;
      same = record { long = length_new l l.replicas 0; replica = λ i b. ap up (at_new l l.replicas 0 i b ∙ ap (f.new_replica l) (omega arith)) ∙ new_is l i; made = refl; told = refl };
    }
image l (g.puts {w = w} i k v x b) = stepped_image l w i (f.put k v) (image l x) b tt
image l (g.gets {w = w} i k x b) = stepped_image l w i (f.get k) (image l x) b tt
image l (g.comes {w = w} i p x b m) = stepped_image l w i (f.came p) (image l x) b (rw (← (image l x).same.made) (made_in p w.made m))
image l (g.hears {w = w} i j c x b m) = stepped_image l w i (f.has j c) (image l x) b (rw (← (image l x).same.told) (said_in j c w.said m))
image l (g.tells {w = w} i x b) = stepped_image l w i f.tell (image l x) b tt
