-- Rounds in which the pairs of a list ask, one after the other, are rounds.
use Rattle.std.proofs.Common.{◌≡◌, ℕ, zero, suc, ◌*◌, ◌<◌, true, List, [], ◌∷◌, ◌++◌, map, length, sym, refl, ap, subst, inl, inr, arith}
use Rattle.std.proofs.lemmas.Bool.{cases_eq, cond_both}
use Rattle.model.specs.Lists.{In}
use Rattle.model.specs.Limits.{Limits}
use Rattle.model.specs.Clock.{Clock}
use Rattle.model.specs.Put.{Put, Body}
use Rattle.model.specs.Delivery.{reply}
use Rattle.model.specs.Replica.{Replica, came, has, tell, refused, puts, event_number, legible, in_range, possible, log_room, queue_room, refusal, accepted, place, says, answer}
use Rattle.model.specs.Cluster.{Cluster, clock_at, is_put, puts_of, told_by, stepped, Reachable, step}
use Rattle.model.specs.Convergence.{Turn, turn, next, ran, Calm, Comes, Asks, Rounds, ran_all, ask, Pair, ask_all, Covers, ask_rounds, asks_below, all_pairs}
use Rattle.model.specs.Theorems.{SameEverywhere, RoundsHappen, ConvergesByList, ConvergesInOrder}
use Rattle.model.proofs.Lists.{in_append, in_left, in_right}
use Rattle.model.proofs.Steps.{in_reply}
use Rattle.model.proofs.Replica.{pass, answer_accepted}
use Rattle.model.proofs.Cluster.{inv}
use Rattle.model.proofs.Runs.{run_reachable, calm_append}
use Rattle.model.proofs.Converge.{converges}

module _ (l : Limits) where
  -- ONE EXCHANGE
  comes_calm : (i : ℕ) → i < l.replicas → (ps : List (Put Body)) (w : Cluster) → ((p : Put Body) → In p ps → In p w.made) → Calm l w (map (λ p. turn i (came p)) ps)
  unfolding is_put
  comes_calm i b [] w f = tt
  comes_calm i b (p ∷ ps) w f = (b, f p (inl refl), refl, comes_calm i b ps (stepped l w i (came p)) (λ q k. f q (inr k)))

  comes_map : (i : ℕ) (ps : List (Put Body)) (ts : List Turn) → Comes i ps (map (λ p. turn i (came p)) ps ++ ts)
  comes_map i [] ts = tt
  comes_map i (p ∷ ps) ts = inl (refl, comes_map i ps ts)

  ask_asks : (i j : ℕ) (w : Cluster) (ts : List Turn) → Asks l i j w (ask l i j w ++ ts)
  ask_asks i j w ts = inl (refl, inl (refl, comes_map i (puts_of (answer l ((stepped l w i tell).replica j) (has i (clock_at w i)))) ts))

  -- what is told is told
  tell_told : (w : Cluster) (i : ℕ) → l.supports 4 ≡ true → In (record { who = i; clock = clock_at w i }) (stepped l w i tell).told
  unfolding legible event_number in_range possible log_room queue_room says told_by
  tell_told w i can =
      let r : Replica = w.replica i in
      let t : refusal l r tell ≡ 0 = pass l r tell (record { is_legible = refl; is_valid = grind arith; is_possible = refl; has_log_room = refl; has_queue_room = refl }) in
      rw (answer_accepted l r tell t) (inl refl)

  -- what is replied was made
  pub replied_made : (w : Cluster) (j i : ℕ) (c : Clock) (p : Put Body) → Reachable l w → In p (puts_of (answer l (w.replica j) (has i c))) → In p w.made
  unfolding says puts_of
  replied_made w j i c p x =
      let r : Replica = w.replica j in
      cond_both (accepted l r (has i c)) (puts (reply c r.delivery)) (refused (refusal l r (has i c)) (place (has i c))) (λ a. In p (puts_of a) → In p w.made)
      (λ _ y. (((inv l x).sound j).core.log.own p (in_reply c r.delivery p y)).0) (λ _ y. absurd y)

  ask_calm : (i j : ℕ) (w : Cluster) → l.supports 4 ≡ true → Reachable l w → i < l.replicas → j < l.replicas → Calm l w (ask l i j w)
  unfolding is_put
  ask_calm i j w can x b bj =
      let u : Cluster = stepped l w i tell in
      let c : Clock = clock_at w i in (
        b,
        tt,
        refl,
        (bj, tell_told w i can, refl, comes_calm i b (puts_of (answer l (u.replica j) (has i c))) (stepped l u j (has i c)) (λ p k. replied_made u j i c p (step i tell x b tt) k)),
      )

  asks_later : (i j : ℕ) (ts us : List Turn) (w : Cluster) → Asks l i j (ran l w ts) us → Asks l i j w (ts ++ us)
  unfolding ran
  asks_later i j [] us w a = a
  asks_later i j (t ∷ ts) us w a = inr (asks_later i j ts us (next l w t) a)

  -- A LIST OF PAIRS
  abbrev Valid : List Pair → Type 0
  Valid asks = (a : Pair) → In a asks → (a.asker < l.replicas) × (a.asked < l.replicas)

  ask_all_calm : l.supports 4 ≡ true → (asks : List Pair) (w : Cluster) → Reachable l w → Valid asks → Calm l w (ask_all l asks w)
  unfolding ask_all
  ask_all_calm can [] w x f = tt
  ask_all_calm can (a ∷ asks) w x f =
      let ts : List Turn = ask l a.asker a.asked w in
      let c : Calm l w ts = ask_calm a.asker a.asked w can x (f a (inl refl)).0 (f a (inl refl)).1 in
      calm_append l ts (ask_all l asks (ran l w ts)) w c (ask_all_calm can asks (ran l w ts) (run_reachable l ts w x c) (λ b k. f b (inr k)))

  ask_all_asks : (asks : List Pair) (w : Cluster) (a : Pair) → In a asks → Asks l a.asker a.asked w (ask_all l asks w)
  unfolding ask_all
  ask_all_asks [] w a k = absurd k
  ask_all_asks (b ∷ asks) w a k =
      let ts : List Turn = ask l b.asker b.asked w in
      let us : List Turn = ask_all l asks (ran l w ts) in
      elim k [
        | inl e ↦ subst (λ z. Asks l z.asker z.asked w (ts ++ us)) (sym e) (ask_asks b.asker b.asked w us)
        | inr j ↦ asks_later a.asker a.asked ts us w (ask_all_asks asks (ran l w ts) a j)
      ]

  -- the turns of n rounds
  rounds_of : ℕ → List Pair → Cluster → List (List Turn)
  rounds_of zero asks w = []
  rounds_of (suc n) asks w = ask_all l asks w ∷ rounds_of n asks (ran l w (ask_all l asks w))

  rounds_are : l.supports 4 ≡ true → (asks : List Pair) → Covers l asks → (n : ℕ) (w : Cluster) → Reachable l w → Rounds l w (rounds_of n asks w)
  unfolding rounds_of
  rounds_are can asks k zero w x = tt
  rounds_are can asks k (suc n) w x =
      let ts : List Turn = ask_all l asks w in
      let c : Calm l w ts = ask_all_calm can asks w x k.valid in (
        record { calm = c; asks = λ i j bi bj d. ask_all_asks asks w (record { asker = i; asked = j }) (k.whole i j bi bj d) },
        rounds_are can asks k n (ran l w ts) (run_reachable l ts w x c),
      )

  rounds_many : (asks : List Pair) (n : ℕ) (w : Cluster) → length (rounds_of n asks w) ≡ n
  unfolding rounds_of
  rounds_many asks zero w = refl
  rounds_many asks (suc n) w = ap suc (rounds_many asks n (ran l w (ask_all l asks w)))

  rounds_ran : (asks : List Pair) (n : ℕ) (w : Cluster) → ran_all l w (rounds_of n asks w) ≡ ask_rounds n l asks w
  unfolding rounds_of ran_all ask_rounds
  rounds_ran asks zero w = refl
  rounds_ran asks (suc n) w = rounds_ran asks n (ran l w (ask_all l asks w))

pub converges_by_list : ConvergesByList
converges_by_list l w asks can x k =
    let n : ℕ = l.replicas * l.log_most in
    subst (SameEverywhere l) (rounds_ran l asks n w) (converges l w (rounds_of l n asks w) can x (omega (arith, rounds_many l asks n w)) (rounds_are l can.2 asks k n w x))

-- THE LIST OF ALL PAIRS
below_in : (i n j : ℕ) → j < n → In (record { asker = i; asked = j }) (asks_below i n)
unfolding asks_below
below_in i zero j b = absurd (omega arith)
below_in i (suc n) j b = elim (cases_eq j n) [ inl e ↦ inl (λ t. record { asker = i; asked = e t }) | inr d ↦ inr (below_in i n j (omega (arith, d))) ]

below_valid : (i n : ℕ) (a : Pair) → In a (asks_below i n) → (a.asker ≡ i) × (a.asked < n)
unfolding asks_below
below_valid i zero a k = absurd k
below_valid i (suc n) a (inl e) = (ap (λ z. z.asker) e, omega (arith, ap (λ z. z.asked) e))
below_valid i (suc n) a (inr k) = let r : (a.asker ≡ i) × (a.asked < n) = below_valid i n a k in (r.0, omega (arith, r.1))

all_in : (m n i j : ℕ) → i < n → j < m → In (record { asker = i; asked = j }) (all_pairs m n)
unfolding all_pairs
all_in m zero i j bi bj = absurd (omega arith)
all_in m (suc n) i j bi bj =
    let a : Pair = record { asker = i; asked = j } in
    elim (cases_eq i n) [
      | inl e ↦ in_left a (asks_below n m) (all_pairs m n) (subst (λ z. In a (asks_below z m)) e (below_in i m j bj))
      | inr d ↦ in_right a (asks_below n m) (all_pairs m n) (all_in m n i j (omega (arith, d)) bj)
    ]

all_valid : (m n : ℕ) (a : Pair) → In a (all_pairs m n) → (a.asker < n) × (a.asked < m)
unfolding all_pairs
all_valid m zero a k = absurd k
all_valid m (suc n) a k =
    elim (in_append a (asks_below n m) (all_pairs m n) k) [
      | inl y ↦ (let r : (a.asker ≡ n) × (a.asked < m) = below_valid n m a y in (omega (arith, r.0), r.1))
      | inr y ↦ (let r : (a.asker < n) × (a.asked < m) = all_valid m n a y in (omega (arith, r.0), r.1))
    ]

all_cover : (l : Limits) → Covers l (all_pairs l.replicas l.replicas)
all_cover l = record { valid = all_valid l.replicas l.replicas; whole = λ i j bi bj d. all_in l.replicas l.replicas i j bi bj }

pub converges_in_order : ConvergesInOrder
converges_in_order l w can x = converges_by_list l w (all_pairs l.replicas l.replicas) can x (all_cover l)

pub rounds_happen : RoundsHappen
rounds_happen l w n can x =
    let asks : List Pair = all_pairs l.replicas l.replicas in
    (rounds_of l n asks w, rounds_many l asks n w, rounds_are l can.2 asks (all_cover l) n w x)
