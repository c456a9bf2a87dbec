-- The theorems about any reachable cluster.
use Rattle.std.proofs.Common.{◌≡◌, ℕ, ◌<◌, true, false, cond, ◌&&◌, eqb, ltb, ◌⊎◌, List, [], ◌∷◌, length, get_or, sym, refl, ap, ◌∙◌, subst, inl, inr, arith}
use borrow.Author.Tests.{clash}
use Rattle.std.proofs.lemmas.Bool.Decides.{nat_tests}
use Rattle.std.proofs.lemmas.Bool.{ltb-true, leb-true, lt-ltb, le-leb, lt-leb, ne_eqb, cases_eq, cases_Bool, or_cases, cond-true, cond-false}
use Rattle.std.proofs.lemmas.List.{length-replicate, get_or-set_same}
use Rattle.model.specs.Lists.{In}
use Rattle.model.specs.Limits.{Limits}
use Rattle.model.specs.Clock.{Clock, at}
use Rattle.model.specs.Put.{Put, number, later, had, same_put, good_head, Body, key_of, good_body}
use Rattle.model.specs.Delivery.{Delivery, ready, is_in, nothing_new, enqueued, Run, begin, take_one, settle, stamped}
use Rattle.model.specs.Store.{new_store, shown, stand, stored_all, of_key, latest}
use Rattle.model.specs.Replica.{Replica, clock_of, put, get, came, refused, value, event_number, legible, in_range, possible, log_room, queue_room, refusal, accepted, place, moves, moved, says, answer, after}
use Rattle.model.specs.Cluster.{Cluster, clock_at, Reachable}
use Rattle.model.specs.Theorems.{ShowsLatest, CausallyClosed, SameClockSameView, SeenIsEarlier, LaterIsTotal, ReadsOwnPut, ReadyIsTaken, PrunedIsEverywhere}
use Rattle.model.proofs.Clocks.{at_below, tick_up}
use Rattle.model.proofs.Steps.{Had, Next, next_of, settle_keeps}
use Rattle.model.proofs.Made.{Made, more_later, seen_earlier, made_total, had_now, ready_is_others}
use Rattle.model.proofs.Sound.{Core, Sound}
use Rattle.model.proofs.Store.{length_stored, Latest, latest_one, latest_same, fold_latest, of_key_latest}
use Rattle.model.proofs.Replica.{passed, pass, answer_accepted, after_accepted}
use Rattle.model.proofs.Cluster.{taken_at, Inv, inv}
use Rattle.model.proofs.Trace.{store_is}

pub causally_closed : CausallyClosed
causally_closed l w i p x j =
    let v : Inv l w (taken_at l x) = inv l x in
    let c : Clock = clock_at w i in (
      λ h. at_below p.seen c ((v.sound i).core.closed.deep p j (leb-true (number p) (at c p.from) h)),
      λ e. le-leb (number p) (at c p.from) (omega (arith, (v.sound i).own p j (e ∙ sym (v.me i)), ap (at c) e, ap (at c) (v.me i))),
    )

pub seen_is_earlier : SeenIsEarlier
seen_is_earlier l w p q x i j h = seen_earlier l w.made (inv l x).made p q i j (leb-true (number p) (at q.seen p.from) h)

pub later_is_total : LaterIsTotal
later_is_total l w p q x i j = made_total l w.made (inv l x).made p q i j

-- THE LATEST: what was taken is what is had of the puts made, and the store is its fold
shown_latest : (l : Limits) (w : Cluster) (x : Reachable l w) (i k : ℕ) → Latest (λ q. In q (taken_at l x i)) k (shown (w.replica i).store k)
shown_latest l w x i k =
    let v : Inv l w (taken_at l x) = inv l x in
    let c : Core l w.made (clock_at w) (w.replica i).delivery (taken_at l x i) = (v.sound i).core in
    rw (store_is l x i)
    (fold_latest l (taken_at l x i) (λ p q a b. made_total l w.made v.made p q (c.took p a).0 (c.took q b).0)
    (λ p a. let g : good_body l p.body ≡ true = v.bodies p (c.took p a).0 in ltb-true (key_of p.body) l.keys (grind arith)) k)

pub shows : (l : Limits) (w : Cluster) → Reachable l w → (i k : ℕ) → shown (w.replica i).store k ≡ latest (of_key k (clock_at w i) w.made)
shows l w x i k =
    let v : Inv l w (taken_at l x) = inv l x in
    let c : Clock = clock_at w i in
    let o : Core l w.made (clock_at w) (w.replica i).delivery (taken_at l x i) = (v.sound i).core in
    latest_one (λ q. In q (taken_at l x i)) k (shown (w.replica i).store k) (latest (of_key k c w.made)) (shown_latest l w x i k)
    (latest_same (λ q. In q w.made × (had c q ≡ true)) (λ q. In q (taken_at l x i)) k (latest (of_key k c w.made))
    (λ q _ a. o.took_all q a.0 (leb-true (number q) (at c q.from) a.1))
    (λ q _ a. ((o.took q a).0, le-leb (number q) (at c q.from) (o.took q a).1))
    (of_key_latest c k w.made (made_total l w.made v.made)))

pub shows_latest : ShowsLatest
unfolding legible event_number in_range possible log_room queue_room says
shows_latest l w i k x b can =
    let r : Replica = w.replica i in
    let h : ltb k l.keys ≡ true = lt-ltb k l.keys b in
    answer_accepted l r (get k) (pass l r (get k) (record { is_legible = refl; is_valid = grind arith; is_possible = refl; has_log_room = refl; has_queue_room = refl }))
    ∙ ap value (shows l w x i k)

-- the answer to get depends on what is shown only
pub get_same : (l : Limits) (q r : Replica) (k : ℕ) → shown q.store k ≡ shown r.store k → answer l q (get k) ≡ answer l r (get k)
unfolding says possible log_room queue_room
get_same l q r k e = ap (λ s. cond (accepted l q (get k)) (value s) (refused (refusal l q (get k)) (place (get k)))) e

pub same_clock_same_view : SameClockSameView
same_clock_same_view l w i j k x e = get_same l (w.replica i) (w.replica j) k ((shows l w x i k ∙ ap (λ c. latest (of_key k c w.made)) e) ∙ sym (shows l w x j k))

-- AN OWN PUT had seen all that stands
stand_own : (p : Put Body) (s : List (Put Body)) (k : ℕ) (M : Put Body → Type 0) → Latest M k s → ((q : Put Body) → M q → later p q ≡ true) → stand p s ≡ p ∷ []
unfolding stand
stand_own p [] k M a f = refl
stand_own p (q ∷ qs) k M a f = cond-true (later p q) (p ∷ []) (q ∷ []) (f q a.1)

pub reads_own_put : ReadsOwnPut
unfolding moves stored_all in_range
reads_own_put l w i b x t =
    let v : Inv l w (taken_at l x) = inv l x in
    let r : Replica = w.replica i in
    let c : Core l w.made (clock_at w) r.delivery (taken_at l x i) = (v.sound i).core in
    let p : Put Body = stamped b r.delivery in
    let k : ℕ = key_of b in
    let ok : (l.supports (event_number (put b)) && good_body l b) ≡ true = (passed l r (put b) t).is_valid in
    let many : length r.store ≡ l.keys = ap length (store_is l x i) ∙ (length_stored (taken_at l x i) (new_store l) ∙ length-replicate l.keys []) in
    let long : k < length r.store = subst (λ n. k < n) (sym many) (ltb-true k l.keys (grind arith)) in
    ((ap (λ (z : Replica). shown z.store k) (after_accepted l r (put b) t) ∙ get_or-set_same r.store k (stand p (shown r.store k)) [] long)
    ∙ stand_own p (shown r.store k) k (λ q. In q (taken_at l x i)) (shown_latest l w x i k) (λ q a. more_later q p (c.closed.deep q (c.took q a).0 (c.took q a).1) (c.took q a).1))
    ∙ ap (λ (n : ℕ). let z : Put Body = record { from = n; seen = clock_at w i; body = b } in z ∷ []) (v.me i)

-- WHAT IS READY IS TAKEN
in_is_in : (l : Limits) (ms : List (Put Body)) (p : Put Body) (ws : List (Put Body)) → Made l ms → In p ms → ((q : Put Body) → In q ws → In q ms) → is_in p ws ≡ true → In p ws
unfolding is_in
in_is_in l ms p [] m i f e = absurd (clash e)
in_is_in l ms p (q ∷ ws) m i f e =
    elim (or_cases (same_put p q) (is_in p ws) e) [
      | inl a ↦ inl (m.one p q i (f q (inl refl)) (grind (arith, nat_tests)) (grind (arith, nat_tests)))
      | inr a ↦ inr (in_is_in l ms p ws m i (λ z j. f z (inr j)) a)
    ]

pub ready_taken : (l : Limits) (w : Cluster) (ts : ℕ → List (Put Body)) (i : ℕ) (p : Put Body) → Inv l w ts → l.supports 2 ≡ true → In p w.made → ready (w.replica i).delivery p ≡ true →
    (refusal l (w.replica i) (came p) ≡ 0) × Had (clock_of (after l (w.replica i) (came p))) p
unfolding legible event_number in_range possible log_room queue_room moves
ready_taken l w ts i p v can j e = (ok, rw is_now grown)
  where
    r : Replica
    r = w.replica i

    d : Delivery Body
    d = r.delivery

    s : Sound l w.made (clock_at w) d (ts i)
    s = v.sound i

    x : Next d.clock p
    x = next_of d p e

    ne : eqb p.from d.me ≡ false
    ne = ne_eqb p.from d.me (ready_is_others w.made d.me d.clock p s.own j x)

    ok : refusal l r (came p) ≡ 0
    ok =
        let b : good_body l p.body ≡ true = v.bodies p j in
        let h : good_head l p ≡ true = v.made.good p j in
        pass l r (came p) (record { is_legible = refl; is_valid = grind arith; is_possible = grind arith; has_log_room = refl; has_queue_room = grind arith })

    is_new : nothing_new d p ≡ false
    is_new =
        let a : had d.clock p ≡ false = lt-leb (number p) (at d.clock p.from) (omega (arith, x.0)) in
        let b : is_in p d.waiting ≡ false = elim (cases_Bool (is_in p d.waiting)) [
          | inl y ↦ absurd (s.quiet p (in_is_in l w.made p d.waiting v.made j s.core.waits y) e)
          | inr y ↦ y
        ] in
        grind arith

    m : Run Body
    m = take_one p (begin d)

    is_now : after l r (came p) ≡ moved (settle l.waiting_most m) r.store
    is_now =
        after_accepted l r (came p) ok
        ∙ ap (λ z. moved z r.store)
        (cond-false (nothing_new d p) (begin d) (cond (ready d p) (settle l.waiting_most m) (begin (enqueued p d))) is_new
        ∙ cond-true (ready d p) (settle l.waiting_most m) (begin (enqueued p d)) e)

    grown : Had (settle l.waiting_most m).now.clock p
    grown =
        settle_keeps (λ z. Had z.now.clock p) (λ z q f _ _. omega (arith, f, tick_up z.now.clock q.from p.from)) l.waiting_most m
        (had_now l w.made d.clock p v.made s.core.closed j x)

pub ready_is_taken : ReadyIsTaken
ready_is_taken l w i p x can j e =
    let t : (refusal l (w.replica i) (came p) ≡ 0) × Had (clock_of (after l (w.replica i) (came p))) p = ready_taken l w (taken_at l x) i p (inv l x) can j e in
    (t.0, le-leb (number p) (at (clock_of (after l (w.replica i) (came p))) p.from) t.1)

-- WHAT LEFT A LOG is with all
pub logged_or_had : (l : Limits) (w : Cluster) (ts : ℕ → List (Put Body)) → Inv l w ts → (p : Put Body) → In p w.made → (i : ℕ) → i < l.replicas →
    In p (w.replica p.from).delivery.log ⊎ Had (clock_at w i) p
logged_or_had l w ts v p j i b =
    let n : ℕ = p.from in
    let me : (w.replica n).delivery.me ≡ n = v.me n in
    let s : Sound l w.made (clock_at w) (w.replica n).delivery (ts n) = v.sound n in
    elim (s.core.log.logged p j (sym me) (omega (arith, s.own p j (sym me), ap (at (clock_at w n)) me))) [
      | inl a ↦ inl a
      | inr a ↦ inr (elim (cases_eq n i) [
        | inl e ↦ omega (arith, a i b, s.core.knows.of_me n, ap (λ (z : ℕ). at (get_or (w.replica n).delivery.known z []) n) (me ∙ e), ap (λ (z : ℕ). at (clock_at w z) n) e)
        | inr e ↦ omega (arith, a i b, s.core.knows.of_other i b (λ z. e (sym me ∙ z)) n)
      ])
    ]

pub pruned_is_everywhere : PrunedIsEverywhere
pruned_is_everywhere l w i p x j n b = elim (logged_or_had l w (taken_at l x) (inv l x) p j i b) [ inl a ↦ absurd (n a) | inr a ↦ le-leb (number p) (at (clock_at w i) p.from) a ]
