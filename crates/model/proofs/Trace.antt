-- The events of a replica in a life of the cluster, and what they make of it.
use Rattle.std.proofs.Common.{◌≡◌, ℕ, Bool, true, false, cond, eqb, List, [], ◌∷◌, ◌++◌, sym, refl, ap, ◌∙◌}
use Rattle.std.proofs.lemmas.Bool.{leb-true, eqb-true, le-leb}
use Rattle.model.specs.Lists.{In}
use Rattle.model.specs.Limits.{Limits}
use Rattle.model.specs.Clock.{at}
use Rattle.model.specs.Put.{Put, number, Body}
use Rattle.model.specs.Store.{new_store, stored_all}
use Rattle.model.specs.Replica.{after, takes, replica, history}
use Rattle.model.specs.Cluster.{Cluster, clock_at, Reachable, start, step, trace}
use Rattle.model.specs.Theorems.{TakenIsHad, InCausalOrder, CausalOrder}
use Rattle.model.proofs.Steps.{Had}
use Rattle.model.proofs.Made.{Ordered}
use Rattle.model.proofs.Replica.{store_is_fold}
use Rattle.model.proofs.Cluster.{taken_at, inv}

-- the cluster's replica is what the definitions make of them
pub replica_is : (l : Limits) {w : Cluster} (x : Reachable l w) (j : ℕ) → w.replica j ≡ replica l j (trace l x j)
unfolding trace replica
replica_is l start j = refl
replica_is l (step {w = w} i e x b a) j = go (eqb i j) refl (replica_is l x j)
  where
    go : (t : Bool) → eqb i j ≡ t → w.replica j ≡ replica l j (trace l x j) → cond t (after l (w.replica i) e) (w.replica j) ≡ replica l j (cond t (e ∷ trace l x j) (trace l x j))
    go true d r = ap (λ n. after l (w.replica n) e) (eqb-true i j d) ∙ ap (λ z. after l z e) r
    go false d r = r

pub history_is : (l : Limits) {w : Cluster} (x : Reachable l w) (j : ℕ) → taken_at l x j ≡ history l j (trace l x j)
unfolding trace history taken_at
history_is l start j = refl
history_is l (step {w = w} i e x b a) j = go (eqb i j) refl (history_is l x j)
  where
    go : (t : Bool) → eqb i j ≡ t → taken_at l x j ≡ history l j (trace l x j) →
        cond t (takes l (w.replica i) e ++ taken_at l x i) (taken_at l x j) ≡ history l j (cond t (e ∷ trace l x j) (trace l x j))
    go true d h =
        ap (λ n. takes l (w.replica n) e ++ taken_at l x n) (eqb-true i j d)
        ∙ (ap (λ r. takes l r e ++ taken_at l x j) (replica_is l x j) ∙ ap (λ ps. takes l (replica l j (trace l x j)) e ++ ps) h)
    go false d h = h

pub store_is : (l : Limits) {w : Cluster} (x : Reachable l w) (j : ℕ) → (w.replica j).store ≡ stored_all (taken_at l x j) (new_store l)
store_is l x j = (ap (λ r. r.store) (replica_is l x j) ∙ store_is_fold l j (trace l x j)) ∙ ap (λ ps. stored_all ps (new_store l)) (sym (history_is l x j))

pub taken_is_had : TakenIsHad
taken_is_had l w x i p = (
  λ j. let t : In p w.made × Had (clock_at w i) p = ((inv l x).sound i).core.took p (rw (sym (history_is l x i)) at j) in (t.0, le-leb (number p) (at (clock_at w i) p.from) t.1),
  λ j. rw (history_is l x i) at (((inv l x).sound i).core.took_all p j.0 (leb-true (number p) (at (clock_at w i) p.from) j.1)),
)

in_order : (ms ts : List (Put Body)) → Ordered ms ts → InCausalOrder ms ts
in_order ms [] o = tt
in_order ms (p ∷ ts) o = (λ q j h. o.0 q j (leb-true (number q) (at p.seen q.from) h), in_order ms ts o.1)

pub causal_order : CausalOrder
causal_order l w x i = rw (history_is l x i) at (in_order w.made (taken_at l x i) ((inv l x).sound i).core.ordered)
