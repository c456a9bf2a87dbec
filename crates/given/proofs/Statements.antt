-- Each flat statement from the model's.
use Rattle.std.proofs.Common.{◌≡◌, ℕ, ◌*◌, ◌<◌, Bool, true, eqb, List, [], ◌∷◌, map, sym, refl, ap, ◌∙◌, inl, inr, arith}
use Rattle.std.proofs.lemmas.Bool.Decides.{nat_tests}
use Rattle.std.proofs.lemmas.Bool.{leb-true, ne_eqb, both_ways, cond-false}
use Rattle.model.specs.Lists.{In}
use Rattle.model.specs.Clock.{Clock, at, below}
use Rattle.model.specs.Put.{Put, number, had, Body, text}
use Rattle.model.specs.Delivery.{ready}
use Rattle.model.specs.Store.{shown, of_key, latest}
use Rattle.model.specs.Replica.{Replica, clock_of, came, value, refusal, answer, after}
use Rattle.model.specs.Cluster.{Cluster, clock_at, Reachable}
use Rattle.model.specs.Convergence.{ask_rounds, all_pairs}
use Rattle.model.specs.Theorems.{not_back, SameEverywhere}
use Rattle.model.proofs.Steps.{next_of}
use Rattle.model.proofs.Orders.{converges_in_order}
use Rattle.model.proofs.Replica.{clock_monotone as model_clock_monotone, view_monotone as model_view_monotone}
use Rattle.model.proofs.Theorems.{causally_closed as model_causally_closed, seen_is_earlier as model_seen_is_earlier, later_is_total as model_later_is_total, shows_latest as model_shows_latest, same_clock_same_view as model_same_clock_same_view, reads_own_put as model_reads_own_put, ready_is_taken as model_ready_is_taken, pruned_is_everywhere as model_pruned_is_everywhere}
use Rattle.given.specs.Translation.{limits, lift, lower, up, event, lifted, lowered}
use Rattle.given.proofs.Parts.{pick_is, nth_is, below_is, lower_lift, number_is, had_is, later_is, ready_is, latest_is, of_key_is}
use Rattle.given.proofs.Simulation.{lowered_lifted, shown_is, refusal_is, answer_is, after_is}
use Rattle.given.proofs.Clusters.{Same, made_in, image}
use Rattle.given.proofs.Rounds.{clock_is_same, rounds_is}
use Rattle.given.specs.Replica as f
use Rattle.given.specs.Cluster as g
use Rattle.given.specs.Statements as s

-- answers that are the same in the model are the same
answers_same : (a b : f.Answer) → lifted a ≡ lifted b → a ≡ b
answers_same a b e = sym (lowered_lifted a) ∙ (ap lowered e ∙ lowered_lifted b)

abbrev at_replica : f.Limits → g.Cluster → ℕ → f.Replica
at_replica l w i = g.replica_at l i w.replicas

-- what a replica answers, where a flat cluster and one of the model are the same
answer_at : (l : f.Limits) (w : g.Cluster) (v : Cluster) (i : ℕ) (e : f.Event) → Same l w v → i < l.replicas → lifted (f.answer l (at_replica l w i) e) ≡ answer (limits l) (v.replica i) (event e)
answer_at l w v i e t b = answer_is l (at_replica l w i) e ∙ ap (λ r. answer (limits l) r (event e)) (t.replica i b)

-- A REACHABLE FLAT CLUSTER w, and v of the model
module _ (l : f.Limits) (w : g.Cluster) (x : g.Reachable l w) where
  abbrev v : Cluster
  v = (image l x).cluster

  abbrev reach : Reachable (limits l) v
  reach = (image l x).reachable

  made_here : (p : f.Put) → g.was_made p w.made ≡ true → In (lift p) v.made
  made_here p e = rw (← (image l x).same.made) (made_in p w.made e)

  clock_here : (i : ℕ) → i < l.replicas → s.clock_of l w i ≡ clock_at v i
  clock_here i b = clock_is_same l w v i (image l x).same b

  had_here : (i : ℕ) (p : f.Put) → i < l.replicas → f.had (s.clock_of l w i) p ≡ had (clock_at v i) (lift p)
  had_here i p b = had_is (s.clock_of l w i) p ∙ ap (λ z. had z (lift p)) (clock_here i b)

  replica_here : (i : ℕ) → i < l.replicas → up (at_replica l w i) ≡ v.replica i
  replica_here i b = (image l x).same.replica i b

  answer_here : (i : ℕ) (e : f.Event) → i < l.replicas → lifted (f.answer l (at_replica l w i) e) ≡ answer (limits l) (v.replica i) (event e)
  answer_here i e b = answer_at l w v i e (image l x).same b

  refusal_here : (i : ℕ) (e : f.Event) → i < l.replicas → f.refusal l (at_replica l w i) e ≡ refusal (limits l) (v.replica i) (event e)
  refusal_here i e b = refusal_is l (at_replica l w i) e ∙ ap (λ r. refusal (limits l) r (event e)) (replica_here i b)

  after_here : (i : ℕ) (e : f.Event) → i < l.replicas → up (f.after l (at_replica l w i) e) ≡ after (limits l) (v.replica i) (event e)
  after_here i e b = after_is l (at_replica l w i) e ∙ ap (λ r. after (limits l) r (event e)) (replica_here i b)

pub shows_latest : (can : ℕ → Bool) → can 1 ≡ true → s.ShowsLatest can
shows_latest can c l w i k good x b bk =
    let o : List f.Put = g.of_key k (s.clock_of l w i) w.made in
    let same : map lift o ≡ of_key k (clock_at (v l w x) i) (v l w x).made = of_key_is k (s.clock_of l w i) w.made ∙ cc (clock_here l w x i b, (image l x).same.made) in
    answers_same (f.answer l (at_replica l w i) (f.get k)) (f.value (g.latest o))
    ((answer_here l w x i (f.get k) b ∙ model_shows_latest (limits l) (v l w x) i k (reach l w x) bk (good.7 1 ∙ c)) ∙ ap value (sym (latest_is o ∙ ap latest same)))

pub causally_closed : (can : ℕ → Bool) → s.CausallyClosed can
causally_closed can l w i p good x b e =
    let c : Clock = clock_at (v l w x) i in
    let t : (had c (lift p) ≡ true → below p.seen c ≡ true) × (p.from ≡ i → had c (lift p) ≡ true) = model_causally_closed (limits l) (v l w x) i (lift p) (reach l w x) (made_here l w x p e) in (
      λ d. (below_is p.seen (s.clock_of l w i) ∙ ap (below p.seen) (clock_here l w x i b)) ∙ t.0 (sym (had_here l w x i p b) ∙ d),
      λ d. had_here l w x i p b ∙ t.1 d,
    )

pub same_clock_same_view : (can : ℕ → Bool) → s.SameClockSameView can
same_clock_same_view can l w i j k good x bi bj bk e =
    answers_same (f.answer l (at_replica l w i) (f.get k)) (f.answer l (at_replica l w j) (f.get k))
    ((answer_here l w x i (f.get k) bi ∙ model_same_clock_same_view (limits l) (v l w x) i j k (reach l w x) (sym (clock_here l w x i bi) ∙ (e ∙ clock_here l w x j bj)))
    ∙ sym (answer_here l w x j (f.get k) bj))

pub converges : (can : ℕ → Bool) → s.Converges can
converges can l w i j good c2 c3 c4 x bi bj =
    let n : ℕ = l.replicas * l.log_most in
    let u : g.Cluster = s.rounds n l w in
    let z : Cluster = ask_rounds n (limits l) (all_pairs l.replicas l.replicas) (v l w x) in
    let t : Same l u z = rounds_is l n w (v l w x) (image l x).same in
    let r : SameEverywhere (limits l) z = converges_in_order (limits l) (v l w x) (good.7 2 ∙ c2, good.7 3 ∙ c3, good.7 4 ∙ c4) (reach l w x) in (
      clock_is_same l u z i t bi ∙ ((r i j bi bj).0 ∙ sym (clock_is_same l u z j t bj)),
      λ k _. answers_same (f.answer l (at_replica l u i) (f.get k)) (f.answer l (at_replica l u j) (f.get k))
          (answer_at l u z i (f.get k) t bi ∙ ((r i j bi bj).1 k ∙ sym (answer_at l u z j (f.get k) t bj))),
    )

pub seen_is_earlier : (can : ℕ → Bool) → s.SeenIsEarlier can
seen_is_earlier can l w p q good x a b h =
    later_is q p ∙ model_seen_is_earlier (limits l) (v l w x) (lift p) (lift q) (reach l w x) (made_here l w x p a) (made_here l w x q b) (sym (had_is q.seen p) ∙ h)

pub later_is_total : (can : ℕ → Bool) → s.LaterIsTotal can
later_is_total can l w p q good x a b =
    elim (model_later_is_total (limits l) (v l w x) (lift p) (lift q) (reach l w x) (made_here l w x p a) (made_here l w x q b)) [
      | inl e ↦ inl (ap lower e)
      | inr z ↦ inr (elim z [ inl e ↦ inl (later_is p q ∙ e) | inr e ↦ inr (later_is q p ∙ e) ])
    ]

-- AT ONE REPLICA
pub reads_own_put : (can : ℕ → Bool) → s.ReadsOwnPut can
reads_own_put can l w i k t good x b e =
    let h : f.Replica = f.after l (at_replica l w i) (f.put k t) in
    sym (lower_lift (f.nth [] h.store k))
    ∙ (ap (map lower) (shown_is h.store k ∙ (ap (λ (z : Replica). shown z.store k) (after_here l w x i (f.put k t) b)
    ∙ model_reads_own_put (limits l) (v l w x) i (text k t) (reach l w x) (sym (refusal_here l w x i (f.put k t) b) ∙ e)))
    ∙ ap (λ c. let z : f.Put = record { key = k; value = t; from = i; seen = c } in z ∷ []) (sym (clock_here l w x i b)))

pub ready_is_taken : (can : ℕ → Bool) → s.ReadyIsTaken can
ready_is_taken can l w i p good c x b a e = (refusal_here l w x i (f.came p) b ∙ t.0, grown)
  where
    r : Replica
    r = (v l w x).replica i

    next_here : ready r.delivery (lift p) ≡ true
    next_here = ap (λ (z : Replica). ready z.delivery (lift p)) (sym (replica_here l w x i b)) ∙ (sym (ready_is (up (at_replica l w i)).delivery p) ∙ e)

    now : Clock
    now = clock_of (after (limits l) r (came (lift p)))

    t : (refusal (limits l) r (came (lift p)) ≡ 0) × (had now (lift p) ≡ true)
    t = model_ready_is_taken (limits l) (v l w x) i (lift p) (reach l w x) (good.7 2 ∙ c) (made_here l w x p a) next_here

    grown : f.at (s.clock_of l w i) p.from < f.at (f.after l (at_replica l w i) (f.came p)).clock p.from
    grown = omega (
      arith,
      nth_is 0 (s.clock_of l w i) p.from,
      ap (λ z. at z p.from) (clock_here l w x i b),
      nth_is 0 (f.after l (at_replica l w i) (f.came p)).clock p.from,
      ap (λ (z : Replica). at z.delivery.clock p.from) (after_here l w x i (f.came p) b),
      leb-true (number (lift p)) (at now p.from) t.1,
      (next_of r.delivery (lift p) next_here).0,
    )

is_there_is : (p : f.Put) (ps : List f.Put) → In (lift p) (map lift ps) → s.is_there p ps ≡ true
unfolding s.is_there
is_there_is p [] i = absurd i
is_there_is p (q ∷ ps) (inl e) =
    let a : p.from ≡ q.from = ap (λ (z : Put Body). z.from) e in
    let b : f.number p ≡ f.number q = number_is p ∙ (ap number e ∙ sym (number_is q)) in
    grind (arith, nat_tests)
is_there_is p (q ∷ ps) (inr i) = let r : s.is_there p ps ≡ true = is_there_is p ps i in grind arith

pub pruned_is_everywhere : (can : ℕ → Bool) → s.PrunedIsEverywhere can
pruned_is_everywhere can l w i p good x a bp e b =
    let log : List f.Put = (at_replica l w p.from).log in
    had_here l w x i p b
    ∙ model_pruned_is_everywhere (limits l) (v l w x) i (lift p) (reach l w x) (made_here l w x p a)
    (λ j. both_ways (s.is_there p log) e (is_there_is p log (rw (ap (λ (z : Replica). z.delivery.log) (sym (replica_here l w x p.from bp))) at j))) b

-- OF ANY FLAT REPLICA
not_back_is : (ps qs : List f.Put) → s.not_back ps qs ≡ not_back (map lift ps) (map lift qs)
unfolding s.not_back not_back
not_back_is [] qs = refl
not_back_is (p ∷ ps) [] = refl
not_back_is (p ∷ ps) (q ∷ qs) = cc (number_is p, number_is q, later_is q p)

pub view_monotone : s.ViewMonotone
view_monotone l h e k _ =
    (not_back_is (f.nth [] h.store k) (f.nth [] (f.after l h e).store k)
    ∙ cc (shown_is h.store k, shown_is (f.after l h e).store k, ap (λ (r : Replica). shown r.store k) (after_is l h e)))
    ∙ model_view_monotone (limits l) (up h) (event e) k

pub clock_monotone : s.ClockMonotone
clock_monotone l h e =
    below_is h.clock (f.after l h e).clock ∙ (ap (λ (r : Replica). below h.clock r.delivery.clock) (after_is l h e) ∙ model_clock_monotone (limits l) (up h) (event e))

pub refusal_changes_nothing : s.RefusalChangesNothing
refusal_changes_nothing l h e b = pick_is (eqb (f.refusal l h e) 0) (f.does l h e) h ∙ cond-false (eqb (f.refusal l h e) 0) (f.does l h e) h (ne_eqb (f.refusal l h e) 0 (omega arith))
