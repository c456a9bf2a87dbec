-- An exchange: whoever asks a replica whose reply begins with a put that is soon ready here, has it afterwards.
use Rattle.std.proofs.Common.{◌≡◌, ℕ, ◌<◌, true, ltb, leb, ◌⊎◌, List, [], ◌∷◌, sym, refl, ap, ◌∙◌, subst, inl, inr, arith}
use Rattle.std.proofs.lemmas.Bool.{lt-ltb, le-leb, cases_lt}
use Rattle.model.specs.Lists.{In}
use Rattle.model.specs.Limits.{Limits}
use Rattle.model.specs.Clock.{Clock, at, good_clock}
use Rattle.model.specs.Put.{Put, number, Body}
use Rattle.model.specs.Delivery.{Delivery, reply}
use Rattle.model.specs.Replica.{Replica, clock_of, came, has, event_number, legible, in_range, possible, log_room, queue_room, says, answer, after}
use Rattle.model.specs.Cluster.{Cluster, clock_at, puts_of, stepped, Reachable, step}
use Rattle.model.specs.Convergence.{Turn, next, ran, Calm, Comes, Hears, Asks}
use Rattle.model.proofs.Lists.{update_split}
use Rattle.model.proofs.Clocks.{Below}
use Rattle.model.proofs.Steps.{Had, Next, ready_of}
use Rattle.model.proofs.Made.{Closed, closed_good, own_most}
use Rattle.model.proofs.Log.{Log, reply_next}
use Rattle.model.proofs.Replica.{pass, answer_accepted}
use Rattle.model.proofs.Cluster.{taken_at, Inv, inv}
use Rattle.model.proofs.Theorems.{ready_taken, logged_or_had}
use Rattle.model.proofs.Runs.{step_up, next_made, run_up, run_made, run_reachable}

-- A PUT IS SOON HAD: it is had, or it is ready; this stays as clocks go on
abbrev pub Soon : Clock → Put Body → Type 0
Soon c p = Had c p ⊎ Next c p

soon_up : (c d : Clock) (p : Put Body) → Below c d → Soon c p → Soon d p
soon_up c d p f (inl h) = inl (omega (arith, f p.from))
soon_up c d p f (inr x) = elim (cases_lt (at d p.from) (number p)) [ inr a ↦ inl a | inl a ↦ inr (omega (arith, x.0, f p.from), λ j. omega (arith, x.1 j, f j)) ]

module _ (l : Limits) (i j : ℕ) (p : Put Body) where
  -- j offers p to i: at any time from w on, if j is told a clock for which p is the next, its reply begins with p; or i has p by then
  abbrev pub Offers : Cluster → Type 0
  Offers w =
      (ts : List Turn) → Calm l w ts → (c : Clock) → Closed l (ran l w ts).made c → Next c p →
      ((rest : List (Put Body)) × (puts_of (answer l ((ran l w ts).replica j) (has i c)) ≡ p ∷ rest)) ⊎ Had (clock_at (ran l w ts) i) p

  module _ (can : l.supports 2 ≡ true) where
    -- a put that comes is had then
    come_gain : (w : Cluster) → Reachable l w → In p w.made → Soon (clock_at w i) p → Had (clock_at (stepped l w i (came p)) i) p
    come_gain w x m (inl h) = omega (arith, step_up l w i (came p) i p.from)
    come_gain w x m (inr n) =
        update_split (λ z. Had (clock_of z) p) w.replica i (after l (w.replica i) (came p)) i
        (λ _. (ready_taken l w (taken_at l x) i p (inv l x) can m (ready_of (w.replica i).delivery p n)).1) (λ d. absurd (d refl))

    comes_gain : (ps : List (Put Body)) (ts : List Turn) (w : Cluster) → Reachable l w → In p w.made → Soon (clock_at w i) p → Calm l w ts → Comes i (p ∷ ps) ts → Had (clock_at (ran l w ts) i) p
    unfolding ran
    comes_gain ps [] w x m s c k = absurd k
    comes_gain ps (t ∷ ts) w x m s c (inl k) =
        let g : Had (clock_at (next l w t) i) p = subst (λ z. Had (clock_at (next l w z) i) p) (sym k.0) (come_gain w x m s) in
        omega (arith, g, run_up l ts (next l w t) i p.from)
    comes_gain ps (t ∷ ts) w x m s c (inr k) =
        comes_gain ps ts (next l w t) (step t.who t.event x c.0 c.1) (rw (next_made l w t c.2) m)
        (soon_up (clock_at w i) (clock_at (next l w t) i) p (step_up l w t.who t.event i) s) c.3 k

    hears_gain : (c : Clock) (ts : List Turn) (w : Cluster) → Reachable l w → In p w.made → Closed l w.made c → Below c (clock_at w i) → Soon c p → Offers w →
        Calm l w ts → Hears l i j c w ts → Had (clock_at (ran l w ts) i) p
    unfolding ran
    hears_gain c [] w x m f up s o k h = absurd h
    hears_gain c (t ∷ ts) w x m f up (inl a) o k h = omega (arith, a, up p.from, run_up l (t ∷ ts) w i p.from)
    hears_gain c (t ∷ ts) w x m f up (inr n) o k (inl h) = elim (o [] tt c f n) [
      | inl z ↦ comes_gain z.0 ts (next l w t) (step t.who t.event x k.0 k.1) (rw (next_made l w t k.2) m)
          (soon_up c (clock_at (next l w t) i) p (λ q. omega (arith, up q, step_up l w t.who t.event i q)) (inr n)) k.3 (subst (λ ps. Comes i ps ts) z.1 h.1)
      | inr a ↦ omega (arith, a, run_up l (t ∷ ts) w i p.from)
    ]
    hears_gain c (t ∷ ts) w x m f up (inr n) o k (inr h) =
        hears_gain c ts (next l w t) (step t.who t.event x k.0 k.1) (rw (next_made l w t k.2) m) (rw (next_made l w t k.2) f)
        (λ q. omega (arith, up q, step_up l w t.who t.event i q)) (inr n) (λ us d. o (t ∷ us) (k.0, k.1, k.2, d)) k.3 h

    pub asks_gain : (ts : List Turn) (w : Cluster) → Reachable l w → In p w.made → Soon (clock_at w i) p → Offers w → Calm l w ts → Asks l i j w ts → Had (clock_at (ran l w ts) i) p
    unfolding ran
    asks_gain [] w x m s o k a = absurd a
    asks_gain (t ∷ ts) w x m s o k (inl a) =
        hears_gain (clock_at w i) ts (next l w t) (step t.who t.event x k.0 k.1) (rw (next_made l w t k.2) m) (rw (next_made l w t k.2) ((inv l x).sound i).core.closed)
        (step_up l w t.who t.event i) s (λ us d. o (t ∷ us) (k.0, k.1, k.2, d)) k.3 a.1
    asks_gain (t ∷ ts) w x m s o k (inr a) =
        asks_gain ts (next l w t) (step t.who t.event x k.0 k.1) (rw (next_made l w t k.2) m) (soon_up (clock_at w i) (clock_at (next l w t) i) p (step_up l w t.who t.event i) s)
        (λ us d. o (t ∷ us) (k.0, k.1, k.2, d)) k.3 a

-- A REPLICA OFFERS ITS OWN PUTS. A closed clock is accepted, and the reply is of what is logged
has_reply : (l : Limits) (w : Cluster) (j i : ℕ) (c : Clock) → Reachable l w → l.supports 3 ≡ true → i < l.replicas → Closed l w.made c →
    puts_of (answer l (w.replica j) (has i c)) ≡ reply c (w.replica j).delivery
unfolding legible event_number in_range possible log_room queue_room says puts_of
has_reply l w j i c x can b f =
    let r : Replica = w.replica j in
    let v : Inv l w (taken_at l x) = inv l x in
    let me : ℕ = r.delivery.me in
    let g : good_clock l c ≡ true = closed_good l w.made c v.made f in
    let h : ltb i l.replicas ≡ true = lt-ltb i l.replicas b in
    let o : leb (at c me) (at (clock_of r) me) ≡ true = le-leb (at c me) (at (clock_of r) me) (own_most l w.made me (clock_of r) c (v.sound j).own f) in
    ap puts_of (answer_accepted l r (has i c) (pass l r (has i c) (record { is_legible = refl; is_valid = grind arith; is_possible = o; has_log_room = refl; has_queue_room = refl })))

pub own_offers : (l : Limits) (i : ℕ) (p : Put Body) (w : Cluster) → l.supports 3 ≡ true → i < l.replicas → Reachable l w → In p w.made → Offers l i p.from p w
own_offers l i p w can b x m ts k c f n = elim (logged_or_had l u (taken_at l y) v p (rw (run_made l ts w k) m) i b) [
  | inr h ↦ inr h
  | inl g ↦
      (let z : (rest : List (Put Body)) × (reply c d ≡ p ∷ rest) = reply_next l u.made d d.known (clock_at u p.from) c p
      (subst (λ q. Log l u.made q d.known (clock_at u p.from) d.log) (v.me p.from) (v.sound p.from).core.log) g n.0 in
      inl (z.0, has_reply l u p.from i c y can b f ∙ z.1))
]
  where
    u : Cluster
    u = ran l w ts

    y : Reachable l u
    y = run_reachable l ts w x k

    v : Inv l u (taken_at l y)
    v = inv l y

    d : Delivery Body
    d = (u.replica p.from).delivery
