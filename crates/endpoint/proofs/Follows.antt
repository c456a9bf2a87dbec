-- A life of running replicas follows one of the model's cluster: each memory is the image of a replica there.
use Rattle.std.proofs.Common.{◌≡◌, ℕ, ◌<◌, Bool, true, false, cond, eqb, List, [], ◌∷◌, ◌++◌, Some, sym, refl, ap, ◌∙◌, subst}
use Rattle.std.proofs.lemmas.Bool.{and_from}
use Rattle.model.specs.Limits.{Limits, GoodLimits}
use Rattle.model.specs.Program.{readable, all_readable}
use Rattle.model.specs.Replica.{Replica, Event, answer, after}
use Rattle.model.specs.Cluster.{Cluster, Brought, Reachable, start, step, new_cluster, stepped, trace}
use Rattle.model.specs.Convergence.{Turn, turn, ran}
use Rattle.model.proofs.Trace.{replica_is}
use Rattle.memory.specs.Layout.{InRange, code_limits}
use Rattle.memory.specs.Image.{encode}
use Rattle.memory.specs.Valid.{Valid}
use Rattle.wire.specs.Reading.{read}
use Rattle.wire.specs.Bytes.{write_answer}
use Rattle.wire.specs.Answers.{read_answer}
use Rattle.wire.proofs.Events.{read_is_readable}
use Rattle.wire.proofs.Carried.{replica_answers_read_back}
use Rattle.calls.specs.Answered.{AllSupported}
use Rattle.endpoint.specs.Call.{Calls, Does}
use Rattle.endpoint.specs.Life.{System, Started, Lent, Run, stop, then, Answers, Says, made_in, moved, told_in}

-- memory that is the image of a valid state, perhaps with more behind it
pub record Image (l : Limits) (r : Replica) (m : List ℕ) : Type 0 where
  pub rest : List ℕ
  pub valid : Valid l r
  pub mem : m ≡ encode l r ++ rest

-- w follows v
pub record Follows (l : Limits) (w : System) (v : Cluster) : Type 0 where
  pub supports : AllSupported l
  pub reach : Reachable l v
  pub carried : (i : ℕ) → all_readable (trace l reach i) ≡ true
  pub made : w.made ≡ v.made
  pub told : w.told ≡ v.told
  pub image : (i : ℕ) → i < l.replicas → Image l (v.replica i) (w.memory i)

-- at the start
pub started_follows : (l : Limits) (w : System) → Started l w → Follows l w (new_cluster l)
unfolding trace all_readable
started_follows l w s = record {
  supports = s.supports;
  reach = start;
  carried = λ i. refl;
  made = s.nothing_made;
  told = s.nothing_told;
  image = λ i h. let o = (s.opened i h).1 in record { rest = _; valid = o.valid l.supports; mem = o.image l.supports };
}

good_limits : (l : Limits) → InRange (code_limits l) → GoodLimits l.supports l
good_limits l x = record { replicas = x.replicas; keys = x.keys; log_most = x.log; waiting_most = x.waiting; supports = λ k. refl }

module _ (l : Limits) (w : System) (v : Cluster) (f : Follows l w v) (i : ℕ) (h : i < l.replicas) where
  -- what a call does and says
  pub does : (s m b : List ℕ) → Calls (w.memory i) s m b → Does l (v.replica i) (f.image i h).rest s m b
  does s m b c = c.right l (v.replica i) (f.image i h).rest f.supports (f.image i h).valid (f.image i h).mem

  pub call_says : (s m b : List ℕ) → Lent s → Calls (w.memory i) s m b → Says b (answer l (v.replica i) (read s))
  unfolding all_readable
  call_says s m b t c =
      let says = (does s m b c).says in
      let es = trace l f.reach i in
      let all : all_readable (read s ∷ es) ≡ true = and_from (readable (read s)) (all_readable es) (read_is_readable s t.bytes t.few) (f.carried i) in
      let back = (replica_answers_read_back l.supports l i es (read s) (good_limits l (f.image i h).valid.few) h all).1 in
      record { written = says; read_back = ap read_answer says ∙ subst (λ r. read_answer (write_answer (answer l r (read s))) ≡ Some (answer l r (read s))) (sym (replica_is l f.reach i)) back }

  -- so an event is answered as the model's replica answers it
  pub answered : (e : Event) (b : List ℕ) → Answers w i e b → Says b (answer l (v.replica i) e)
  answered e b a = subst (λ x. Says b (answer l (v.replica i) x)) a.are (call_says a.bytes a.left b a.lent a.calls)

  -- and one call more follows one event more
  pub call_follows : (s m b : List ℕ) → Lent s → Brought w.made w.told (read s) → Calls (w.memory i) s m b → Follows l (moved w i s m b) (stepped l v i (read s))
  unfolding trace all_readable
  call_follows s m b t a c =
      let e = read s in
      let d = does s m b c in
      let says = (call_says s m b t c).read_back in
      let allowed : Brought v.made v.told e = subst (λ us. Brought v.made us e) f.told (subst (λ ms. Brought ms w.told e) f.made a) in
      record {
        supports = f.supports;
        reach = step i e f.reach h allowed;
        carried = λ j. carried_more j (eqb i j);
        made = (λ k. made_in e (says k) ++ f.made k);
        told = (λ k. told_in i (says k) ++ f.told k);
        image = λ j g. image_more j g (eqb i j) refl d;
      }
    where
      carried_more : (j : ℕ) (y : Bool) → all_readable (cond y (read s ∷ trace l f.reach j) (trace l f.reach j)) ≡ true
      carried_more j true = and_from (readable (read s)) (all_readable (trace l f.reach j)) (read_is_readable s t.bytes t.few) (f.carried j)
      carried_more j false = f.carried j

      image_more : (j : ℕ) → j < l.replicas → (y : Bool) → eqb i j ≡ y → Does l (v.replica i) (f.image i h).rest s m b → Image l (cond y (after l (v.replica i) (read s)) (v.replica j)) (cond y m (w.memory j))
      image_more j g true q d = record { rest = (f.image i h).rest; valid = d.valid; mem = d.mem }
      image_more j g false q d = f.image j g

-- CALLS, ONE AFTER THE OTHER: the turns that they are
unfoldable pub turns : {l : Limits} {w u : System} → Run l w u → List Turn
turns stop = []
turns (then i s m b h t a c r) = turn i (read s) ∷ turns r

pub run_follows : (l : Limits) {w u : System} (r : Run l w u) (v : Cluster) → Follows l w v → Follows l u (ran l v (turns r))
unfolding turns ran
run_follows l stop v f = f
run_follows l (then {w = w} i s m b h t a c r) v f = run_follows l r (stepped l v i (read s)) (call_follows l w v f i h s m b t a c)
