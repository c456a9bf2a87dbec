-- Runs: clocks go on; without a put nothing is made. One run after another is a run.
use Rattle.std.proofs.Common.{◌≡◌, ℕ, zero, suc, ◌≤◌, false, List, [], ◌∷◌, ◌++◌, length, refl, ap, ◌∙◌, subst, arith}
use Rattle.model.specs.Limits.{Limits}
use Rattle.model.specs.Clock.{at}
use Rattle.model.specs.Replica.{clock_of, Event, answer, after}
use Rattle.model.specs.Cluster.{Cluster, clock_at, is_put, stepped, Reachable, step}
use Rattle.model.specs.Convergence.{Turn, next, ran, Calm, Rounds, ran_all, Way, RoundsApart}
use Rattle.model.proofs.Lists.{update_split}
use Rattle.model.proofs.Clocks.{Below}
use Rattle.model.proofs.Replica.{clock_up}
use Rattle.model.proofs.Cluster.{made_calm}

pub step_up : (l : Limits) (w : Cluster) (i : ℕ) (e : Event) (j : ℕ) → Below (clock_at w j) (clock_at (stepped l w i e) j)
step_up l w i e j q =
    update_split (λ z. at (clock_at w j) q ≤ at (clock_of z) q) w.replica i (after l (w.replica i) e) j
    (λ d. subst (λ n. at (clock_at w n) q ≤ at (clock_of (after l (w.replica i) e)) q) d (clock_up l (w.replica i) e q)) (λ _. omega arith)

module _ (l : Limits) where
  pub next_made : (w : Cluster) (t : Turn) → is_put t.event ≡ false → (next l w t).made ≡ w.made
  next_made w t n = ap (λ ps. ps ++ w.made) (made_calm t.event (answer l (w.replica t.who) t.event) n)

  pub run_up : (ts : List Turn) (w : Cluster) (j : ℕ) → Below (clock_at w j) (clock_at (ran l w ts) j)
  unfolding ran
  run_up [] w j q = omega arith
  run_up (t ∷ ts) w j q = omega (arith, step_up l w t.who t.event j q, run_up ts (next l w t) j q)

  pub run_made : (ts : List Turn) (w : Cluster) → Calm l w ts → (ran l w ts).made ≡ w.made
  unfolding ran
  run_made [] w c = refl
  run_made (t ∷ ts) w c = run_made ts (next l w t) c.3 ∙ next_made w t c.2

  pub run_reachable : (ts : List Turn) (w : Cluster) → Reachable l w → Calm l w ts → Reachable l (ran l w ts)
  unfolding ran
  run_reachable [] w x c = x
  run_reachable (t ∷ ts) w x c = run_reachable ts (next l w t) (step t.who t.event x c.0 c.1) c.3

  pub ran_append : (ts us : List Turn) (w : Cluster) → ran l w (ts ++ us) ≡ ran l (ran l w ts) us
  unfolding ran
  ran_append [] us w = refl
  ran_append (t ∷ ts) us w = ran_append ts us (next l w t)

  pub calm_append : (ts us : List Turn) (w : Cluster) → Calm l w ts → Calm l (ran l w ts) us → Calm l w (ts ++ us)
  unfolding ran
  calm_append [] us w c d = d
  calm_append (t ∷ ts) us w c d = (c.0, c.1, c.2, calm_append ts us (next l w t) c.3 d)

  -- WAYS from w to v: what holds after them
  pub record Goes (w v : Cluster) : Type 0 where
    pub up : (j : ℕ) → Below (clock_at w j) (clock_at v j)
    pub made : v.made ≡ w.made
    pub reachable : Reachable l w → Reachable l v

  pub way_goes : (P : List Turn → Type 0) (w v : Cluster) → Way l w v P → Goes w v
  way_goes P w v (ts, c, e, _) = subst (Goes w) e (record { up = run_up ts w; made = run_made ts w c; reachable = λ x. run_reachable ts w x c })

  pub rounds_go : (n : ℕ) (w v : Cluster) → RoundsApart l n w v → Goes w v
  rounds_go zero w v r = way_goes (λ _. Unit {0}) w v r
  rounds_go (suc n) w v r =
      let a : Goes w r.0 = way_goes (λ _. Unit {0}) w r.0 r.1.way in
      let b : Goes r.0 v = rounds_go n r.0 v r.2 in
      record { up = λ j q. omega (arith, a.up j q, b.up j q); made = b.made ∙ a.made; reachable = λ x. b.reachable (a.reachable x) }

  -- ROUNDS ON ONE RUN are rounds
  rounds_way : (rs : List (List Turn)) (w : Cluster) → Rounds l w rs → Way l w (ran_all l w rs) (λ _. Unit {0})
  unfolding ran ran_all
  rounds_way [] w r = ([], tt, refl, tt)
  rounds_way (ts ∷ rs) w r =
      let y : Way l (ran l w ts) (ran_all l (ran l w ts) rs) (λ _. Unit {0}) = rounds_way rs (ran l w ts) r.1 in
      (ts ++ y.0, calm_append ts y.0 w r.0.calm y.1, ran_append ts y.0 w ∙ y.2, tt)

  pub rounds_apart : (n : ℕ) (rs : List (List Turn)) (w : Cluster) → n ≤ length rs → Rounds l w rs → RoundsApart l n w (ran_all l w rs)
  unfolding ran_all
  rounds_apart zero rs w h r = rounds_way rs w r
  rounds_apart (suc n) [] w h r = absurd (omega arith)
  rounds_apart (suc n) (ts ∷ rs) w h r = (
    ran l w ts,
    record { way = (ts, r.0.calm, refl, tt); asks = λ i j bi bj d. (ts, r.0.calm, refl, r.0.asks i j bi bj d) },
    rounds_apart n rs (ran l w ts) (omega arith) r.1,
  )
