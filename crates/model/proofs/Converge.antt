-- Convergence: each round brings each replica something that it lacks, and it lacks at most a log's worth of each.
use Rattle.std.proofs.Common.{◌≡◌, ℕ, zero, suc, ◌+◌, ◌*◌, ◌<◌, ◌≤◌, Bool, true, false, ◌⊎◌, List, [], ◌∷◌, sym, refl, ap, ◌∙◌, subst, inl, inr, arith}
use Rattle.std.proofs.lemmas.Bool.{cases_lt, cases_eq}
use Rattle.model.specs.Lists.{In}
use Rattle.model.specs.Limits.{Limits}
use Rattle.model.specs.Clock.{Clock, at, sum, below, tick}
use Rattle.model.specs.Put.{Put, number, Body}
use Rattle.model.specs.Cluster.{Cluster, clock_at, Reachable}
use Rattle.model.specs.Convergence.{Asks, ran_all, Way, RoundApart, RoundsApart}
use Rattle.model.specs.Theorems.{CanAsk, Converges, ConvergesApart}
use Rattle.model.proofs.Clocks.{Below, below_at, above_at, clock_ext, tick_up, tick_same, sum_le, sum_lt, sum_few}
use Rattle.model.proofs.Steps.{Had, Next}
use Rattle.model.proofs.Made.{Closed, Made, from_in_range, in_clock, closed_take, own_most, ready_is_others}
use Rattle.model.proofs.Log.{down_in}
use Rattle.model.proofs.Sound.{Sound}
use Rattle.model.proofs.Cluster.{taken_at, Inv, inv}
use Rattle.model.proofs.Theorems.{same_clock_same_view, logged_or_had}
use Rattle.model.proofs.Runs.{Goes, way_goes, rounds_go, rounds_apart}
use Rattle.model.proofs.Asks.{asks_gain, own_offers}

abbrev pub AllHad : List (Put Body) → Clock → Type 0
AllHad ms c = (p : Put Body) → In p ms → Had c p

-- WHO LACKS SOMETHING lacks something that is ready: of what it lacks, one that had seen least
all_or_lacks : (ms : List (Put Body)) (c : Clock) → AllHad ms c ⊎ ((p : Put Body) × In p ms × (at c p.from < number p))
all_or_lacks [] c = inl (λ p i. absurd i)
all_or_lacks (m ∷ ms) c =
    elim (cases_lt (at c m.from) (number m)) [
      | inl a ↦ inr (m, inl refl, a)
      | inr a ↦ elim (all_or_lacks ms c) [
        | inl f ↦ inl (λ p i. elim i [ inl e ↦ subst (Had c) (sym e) a | inr j ↦ f p j ])
        | inr t ↦ inr (t.0, inr t.1, t.2)
      ]
    ]

next_or_earlier : (l : Limits) (ms : List (Put Body)) (c : Clock) → Made l ms → (p : Put Body) → In p ms → at c p.from < number p →
    Next c p ⊎ ((q : Put Body) × In q ms × (at c q.from < number q) × (sum q.seen < sum p.seen))
next_or_earlier l ms c m p i h = go (below p.seen c) refl
  where
    go : (b : Bool) → below p.seen c ≡ b → Next c p ⊎ ((q : Put Body) × In q ms × (at c q.from < number q) × (sum q.seen < sum p.seen))
    go true e = inl (omega (arith, below_at p.seen c e p.from), below_at p.seen c e)
    go false e =
        let t : (j : ℕ) × (at c j < at p.seen j) = above_at p.seen c e in
        let f : Closed l ms p.seen = m.seen_closed p i in
        let u : (q : Put Body) × In q ms × (q.from ≡ t.0) × (number q ≡ suc (at c t.0)) = f.real t.0 (at c t.0) t.1 in
        let q : Put Body = u.0 in
        let a : Had p.seen q = omega (arith, u.3, t.1, ap (at p.seen) u.2) in
        inr (q, u.1, omega (arith, u.3, ap (at c) u.2), sum_lt q.seen p.seen q.from (f.deep q u.1 a) a)

find_next : (l : Limits) (ms : List (Put Body)) (c : Clock) → Made l ms → (n : ℕ) (p : Put Body) → In p ms → at c p.from < number p → sum p.seen ≤ n → (q : Put Body) × In q ms × Next c q
find_next l ms c m zero p i h s = elim (next_or_earlier l ms c m p i h) [ inl x ↦ (p, i, x) | inr t ↦ absurd (omega (arith, t.3)) ]
find_next l ms c m (suc n) p i h s = elim (next_or_earlier l ms c m p i h) [ inl x ↦ (p, i, x) | inr t ↦ find_next l ms c m n t.0 t.1 t.2 (omega (arith, t.3)) ]

all_or_next : (l : Limits) (ms : List (Put Body)) (c : Clock) → Made l ms → AllHad ms c ⊎ ((q : Put Body) × In q ms × Next c q)
all_or_next l ms c m = elim (all_or_lacks ms c) [ inl f ↦ inl f | inr t ↦ inr (find_next l ms c m (sum t.0.seen) t.0 t.1 t.2 (omega arith)) ]

-- A ROUND brings replica i what is ready
module _ (l : Limits) (can : CanAsk l.supports) (i : ℕ) (b : i < l.replicas) where
  round_gain : (w v : Cluster) (p : Put Body) → Reachable l w → RoundApart l w v → In p w.made → Next (clock_at w i) p → Had (clock_at v i) p
  round_gain w v p x r m n =
      let o : Inv l w (taken_at l x) = inv l x in
      let bp : p.from < l.replicas = from_in_range l w.made o.made p m in
      elim (cases_eq i p.from) [
        | inl e ↦ absurd (ready_is_others w.made (w.replica i).delivery.me (clock_at w i) p (o.sound i).own m n (sym e ∙ sym (o.me i)))
        | inr d ↦
            (let k : Way l w v (Asks l i p.from w) = r.asks i p.from b bp d in
            subst (λ z. Had (clock_at z i) p) k.2 (asks_gain l i p.from p can.0 k.0 w x m (inr n) (own_offers l i p w can.1 b x m) k.1 k.3))
      ]

  -- after n rounds all is had, or the clock has grown by n
  progress : (n : ℕ) (w v : Cluster) → Reachable l w → RoundsApart l n w v → AllHad w.made (clock_at v i) ⊎ (sum (clock_at w i) + n ≤ sum (clock_at v i))
  progress zero w v x r = inr (omega (arith, sum_le (clock_at w i) (clock_at v i) ((rounds_go l zero w v r).up i)))
  progress (suc n) w v x r =
      let u : Cluster = r.0 in
      let a : Goes l w u = way_goes l (λ _. Unit {0}) w u r.1.way in
      elim (all_or_next l w.made (clock_at w i) (inv l x).made) [
        | inl f ↦ inl (λ p k. omega (arith, f p k, (rounds_go l (suc n) w v r).up i p.from))
        | inr t ↦
            (let p : Put Body = t.0 in
            let g : Had (clock_at u i) p = round_gain w u p x r.1 t.1 t.2 in
            let s : sum (clock_at w i) < sum (clock_at u i) = sum_lt (clock_at w i) (clock_at u i) p.from (a.up i) (omega (arith, g, t.2.0)) in
            elim (progress n u v (a.reachable x) r.2) [ inl f ↦ inl (λ q k. f q (rw a.made k)) | inr h ↦ inr (omega arith) ])
      ]

-- WHAT A REPLICA LACKS is in a log: so it is not much
lacks_few : (l : Limits) (w : Cluster) (x : Reachable l w) (c : Clock) → Closed l w.made c → (i : ℕ) → i < l.replicas → (q : ℕ) → at c q ≤ at (clock_at w i) q + l.log_most
lacks_few l w x c f i b q =
    elim (cases_lt (at (clock_at w i) q) (at c q)) [
      | inr a ↦ omega arith
      | inl a ↦
          (let v : Inv l w (taken_at l x) = inv l x in
          let d : Clock = clock_at w i in
          let t : (p : Put Body) × In p w.made × (p.from ≡ q) × (number p ≡ suc (at d q)) = f.real q (at d q) a in
          let p : Put Body = t.0 in
          let n : ℕ = p.from in
          let s : Sound l w.made (clock_at w) (w.replica n).delivery (taken_at l x n) = v.sound n in
          let me : (w.replica n).delivery.me ≡ n = v.me n in
          elim (logged_or_had l w (taken_at l x) v p t.1 i b) [
            | inl y ↦ omega (
              arith,
              own_most l w.made (w.replica n).delivery.me (clock_at w n) c s.own f,
              down_in (at (clock_at w n) (w.replica n).delivery.me) (w.replica n).delivery.log p s.core.log.down y,
              s.core.log_fits,
              t.3,
              ap (at c) (me ∙ t.2),
            )
            | inr y ↦ absurd (omega (arith, y, t.3, ap (at d) t.2))
          ])
    ]

-- SO AFTER THE ROUNDS ALL IS HAD
all_had_then : (l : Limits) → CanAsk l.supports → (i : ℕ) → i < l.replicas → (w v : Cluster) → Reachable l w → RoundsApart l (l.replicas * l.log_most) w v → AllHad w.made (clock_at v i)
all_had_then l can i b w v x r =
    elim (progress l can i b n w v x r) [
      | inl a ↦ a
      | inr h ↦ elim (all_or_next l w.made c m) [
        | inl a ↦ a
        | inr t ↦
            (let p : Put Body = t.0 in
            let d : Clock = tick c p.from in
            let o : Closed l w.made d = closed_take l w.made m c p f t.1 t.2 in
            let s : sum c < sum d = sum_lt c d p.from (tick_up c p.from) (omega (arith, tick_same c p.from (in_clock l w.made c m f p t.1))) in
            absurd (omega (arith, sum_few d (clock_at w i) l.replicas l.log_most o.long ((inv l x).sound i).core.closed.long (lacks_few l w x d o i b))))
      ]
    ]
  where
    n : ℕ
    n = l.replicas * l.log_most

    g : Goes l w v
    g = rounds_go l n w v r

    c : Clock
    c = clock_at v i

    m : Made l w.made
    m = (inv l x).made

    f : Closed l w.made c
    f = rw g.made at ((inv l (g.reachable x)).sound i).core.closed

all_had_most : (l : Limits) (ms : List (Put Body)) (c d : Clock) → Closed l ms c → AllHad ms d → Below c d
all_had_most l ms c d f a q =
    elim (cases_lt (at d q) (at c q)) [
      | inr h ↦ h
      | inl h ↦
          (let t : (p : Put Body) × In p ms × (p.from ≡ q) × (number p ≡ suc (at d q)) = f.real q (at d q) h in
          omega (arith, a t.0 t.1, t.3, ap (at d) t.2))
    ]

pub converges_apart : ConvergesApart
converges_apart l w v can x r i j bi bj = (same, λ k. same_clock_same_view l v i j k y same)
  where
    g : Goes l w v
    g = rounds_go l (l.replicas * l.log_most) w v r

    y : Reachable l v
    y = g.reachable x

    closed : (n : ℕ) → Closed l w.made (clock_at v n)
    closed n = rw g.made at ((inv l y).sound n).core.closed

    same : clock_at v i ≡ clock_at v j
    same = clock_ext (clock_at v i) (clock_at v j) ((closed i).long ∙ sym (closed j).long)
        (all_had_most l w.made (clock_at v i) (clock_at v j) (closed i) (all_had_then l can j bj w v x r))
        (all_had_most l w.made (clock_at v j) (clock_at v i) (closed j) (all_had_then l can i bi w v x r))

pub converges : Converges
converges l w rs can x n r = converges_apart l w (ran_all l w rs) can x (rounds_apart l (l.replicas * l.log_most) rs w n r)
