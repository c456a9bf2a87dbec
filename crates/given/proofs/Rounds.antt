-- Asking in the flat cluster is asking in the model's.
use Rattle.std.proofs.Common.{◌≡◌, ℕ, zero, suc, ◌<◌, ◌≤◌, List, [], ◌∷◌, ◌++◌, map, sym, refl, ap, ◌∙◌, subst, arith}
use Rattle.model.specs.Limits.{Limits}
use Rattle.model.specs.Clock.{Clock}
use Rattle.model.specs.Put.{Put, Body}
use Rattle.model.specs.Replica.{Replica, came, has, tell, answer}
use Rattle.model.specs.Cluster.{Cluster, clock_at, puts_of, stepped}
use Rattle.model.specs.Convergence.{Turn, turn, ran, ask, Pair, ask_all, ask_rounds, asks_below, all_pairs}
use Rattle.model.proofs.Runs.{ran_append}
use Rattle.given.specs.Translation.{limits, lift}
use Rattle.given.proofs.Simulation.{answer_is}
use Rattle.given.proofs.Clusters.{Same, puts_of_is, step_is}
use Rattle.given.specs.Replica as f
use Rattle.given.specs.Cluster as g
use Rattle.given.specs.Statements as s

module _ (l : f.Limits) where
  abbrev here : Limits
  here = limits l

  pub clock_is_same : (w : g.Cluster) (v : Cluster) (i : ℕ) → Same l w v → i < l.replicas → s.clock_of l w i ≡ clock_at v i
  clock_is_same w v i t b = ap (λ (r : Replica). r.delivery.clock) (t.replica i b)

  answered_is : (a : f.Answer) → s.answered_puts a ≡ g.puts_of a
  unfolding s.answered_puts g.puts_of
  answered_is (f.refused n k) = refl
  answered_is (f.done ps) = refl
  answered_is (f.value ps) = refl
  answered_is (f.here c) = refl

  abbrev coming : ℕ → List (Put Body) → List Turn
  coming i ps = map (λ p. turn i (came p)) ps

  come_all_is : (i : ℕ) → i < l.replicas → (ps : List f.Put) (w : g.Cluster) (v : Cluster) → Same l w v → Same l (s.come_all l i ps w) (ran here v (coming i (map lift ps)))
  unfolding s.come_all ran
  come_all_is i b [] w v t = t
  come_all_is i b (p ∷ ps) w v t = come_all_is i b ps (g.meets l w i (f.came p)) (stepped here v i (came (lift p))) (step_is l w v i (f.came p) t b)

  asking_is : (i j : ℕ) (w : g.Cluster) (v : Cluster) → i < l.replicas → j < l.replicas → Same l w v → Same l (s.asking l i j w) (ran here v (ask here i j v))
  unfolding ran
  asking_is i j w v bi bj t =
      subst (λ ps. Same l (s.asking l i j w) (ran here (stepped here u j (has i (clock_at v i))) (coming i ps))) replied
      (come_all_is i bi (s.answered_puts a) (g.meets l x j (f.has i c)) (stepped here u j (has i (clock_at v i)))
      (subst (λ z. Same l (g.meets l x j (f.has i c)) (stepped here u j (has i z))) e (step_is l x u j (f.has i c) told bj)))
    where
      x : g.Cluster
      x = g.meets l w i f.tell

      u : Cluster
      u = stepped here v i tell

      told : Same l x u
      told = step_is l w v i f.tell t bi

      c : Clock
      c = s.clock_of l w i

      e : c ≡ clock_at v i
      e = clock_is_same w v i t bi

      a : f.Answer
      a = f.answer l (g.replica_at l j x.replicas) (f.has i c)

      replied : map lift (s.answered_puts a) ≡ puts_of (answer here (u.replica j) (has i (clock_at v i)))
      replied =
          (ap (map lift) (answered_is a) ∙ puts_of_is a)
          ∙ ap puts_of (answer_is l (g.replica_at l j x.replicas) (f.has i c) ∙ (ap (λ r. answer here r (has i c)) (told.replica j bj) ∙ ap (λ z. answer here (u.replica j) (has i z)) e))

  -- lists of pairs
  abbrev asked : List Pair → Cluster → Cluster
  asked asks v = ran here v (ask_all here asks v)

  asked_more : (a : Pair) (asks : List Pair) (v : Cluster) → asked (a ∷ asks) v ≡ asked asks (ran here v (ask here a.asker a.asked v))
  unfolding ask_all
  asked_more a asks v = ran_append here (ask here a.asker a.asked v) (ask_all here asks (ran here v (ask here a.asker a.asked v))) v

  asked_append : (xs ys : List Pair) (v : Cluster) → asked (xs ++ ys) v ≡ asked ys (asked xs v)
  unfolding ask_all ran
  asked_append [] ys v = refl
  asked_append (a ∷ xs) ys v =
      let u : Cluster = ran here v (ask here a.asker a.asked v) in
      asked_more a (xs ++ ys) v ∙ (asked_append xs ys u ∙ ap (asked ys) (sym (asked_more a xs v)))

  ask_each_is : (i j : ℕ) (w : g.Cluster) (v : Cluster) → i < l.replicas → j ≤ l.replicas → Same l w v → Same l (s.ask_each l i j w) (asked (asks_below i j) v)
  unfolding s.ask_each asks_below ask_all ran
  ask_each_is i zero w v bi bj t = t
  ask_each_is i (suc j) w v bi bj t =
      subst (Same l (s.ask_each l i (suc j) w)) (sym (asked_more (record { asker = i; asked = j }) (asks_below i j) v))
      (ask_each_is i j (s.asking l i j w) (ran here v (ask here i j v)) bi (omega arith) (asking_is i j w v bi (omega arith) t))

  all_ask_is : (i : ℕ) (w : g.Cluster) (v : Cluster) → i ≤ l.replicas → Same l w v → Same l (s.all_ask l i w) (asked (all_pairs l.replicas i) v)
  unfolding s.all_ask all_pairs ask_all ran
  all_ask_is zero w v b t = t
  all_ask_is (suc i) w v b t =
      subst (Same l (s.all_ask l (suc i) w)) (sym (asked_append (asks_below i l.replicas) (all_pairs l.replicas i) v))
      (all_ask_is i (s.ask_each l i l.replicas w) (asked (asks_below i l.replicas) v) (omega arith) (ask_each_is i l.replicas w v (omega arith) (omega arith) t))

  pub rounds_is : (n : ℕ) (w : g.Cluster) (v : Cluster) → Same l w v → Same l (s.rounds n l w) (ask_rounds n here (all_pairs l.replicas l.replicas) v)
  unfolding s.rounds ask_rounds
  rounds_is zero w v t = t
  rounds_is (suc n) w v t = rounds_is n (s.all_ask l l.replicas w) (asked (all_pairs l.replicas l.replicas) v) (all_ask_is l.replicas w v (omega arith) t)
