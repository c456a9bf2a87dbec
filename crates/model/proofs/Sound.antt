-- One replica's delivery among others: what every change of state keeps.
use Rattle.std.proofs.Common.{◌≡◌, ℕ, zero, suc, ◌<◌, ◌≤◌, true, false, cond, not, eqb, ◌≢◌, List, [], ◌∷◌, ◌++◌, length, get_or, set, sym, refl, ap, ◌∙◌, subst, inl, inr, arith}
use Rattle.std.proofs.lemmas.Bool.{eqb-true, le-leb, both_ways, cases_eq, cond_both, not_from_true}
use Rattle.std.proofs.lemmas.List.{length_push}
use Rattle.model.specs.Lists.{In}
use Rattle.model.specs.Limits.{Limits}
use Rattle.model.specs.Clock.{Clock, at, join, tick}
use Rattle.model.specs.Put.{Put, number, had}
use Rattle.model.specs.Delivery.{Delivery, ready, nothing_new, all_have, counted, enqueued, learned, Run, begin, take_one, settle, deliver, stamped}
use Rattle.model.proofs.Lists.{in_append, in_kept, length_kept, fewer_kept}
use Rattle.model.proofs.Clocks.{Below, tick_up, tick_same, tick_other, join_up}
use Rattle.model.proofs.Steps.{Had, Next, next_of, ready_of, own_ready, Quiet, settle_turn, deliver_is}
use Rattle.model.proofs.Made.{Closed, Made, in_clock, Fresh, had_before, closed_more, Ordered, ordered_more, had_now, had_then, closed_take, Own, own_most, ready_is_others}
use Rattle.model.proofs.Log.{Knows, knows_take, TrueClaim, knows_learn, row_up, Log, log_pruned, log_known, log_more, log_take}

module _ {B : Type 0} where
  -- What holds at each moment, of a delivery d that has taken ts, where ms were made and cs are the clocks of the others.
  pub record Core (l : Limits) (ms : List (Put B)) (cs : ℕ → Clock) (d : Delivery B) (ts : List (Put B)) : Type 0 where
    pub closed : Closed l ms d.clock
    pub waits : (p : Put B) → In p d.waiting → In p ms
    pub took : (p : Put B) → In p ts → In p ms × Had d.clock p
    pub took_all : (p : Put B) → In p ms → Had d.clock p → In p ts
    pub ordered : Ordered ms ts
    pub knows : Knows l cs d.me d.clock d.known
    pub log : Log l ms d.me d.known d.clock d.log
    pub log_fits : length d.log ≤ l.log_most
    pub queue_fits : length d.waiting ≤ l.waiting_most

  -- and between events
  pub record Sound (l : Limits) (ms : List (Put B)) (cs : ℕ → Clock) (d : Delivery B) (ts : List (Put B)) : Type 0 where
    pub core : Core l ms cs d ts
    pub own : Own ms d.me d.clock
    pub quiet : Quiet d

  module _ (l : Limits) (ms : List (Put B)) (cs : ℕ → Clock) where
    -- a put is made, here or elsewhere
    pub core_more : (d : Delivery B) (ts : List (Put B)) (r : Put B) → Made l ms → Fresh ms r → Core l ms cs d ts → Core l (r ∷ ms) cs d ts
    core_more d ts r m n c =
        record {
          closed = closed_more l ms d.clock r c.closed n;
          waits = λ p j. inr (c.waits p j);
          took = λ p j. (inr (c.took p j).0, (c.took p j).1);
          took_all = λ p j h. c.took_all p (had_before l ms d.clock r c.closed n p j h) h;
          ordered = ordered_more l ms r m n ts (λ p j. (c.took p j).0) c.ordered;
          knows = c.knows;
          log = log_more l ms d.me d.known d.clock d.log r c.closed n c.log;
          log_fits = c.log_fits;
          queue_fits = c.queue_fits;
        }

    -- a put is taken
    pub core_take : (d : Delivery B) (ts : List (Put B)) (p : Put B) → Made l ms → Core l ms cs d ts → In p ms → ready d p ≡ true →
        (p.from ≡ d.me → length d.log < l.log_most) → Core l ms cs (counted p d) (p ∷ ts)
    core_take d ts p m c i e room =
        record {
          closed = closed_take l ms m d.clock p c.closed i x;
          waits = λ q j. c.waits q (in_kept (λ z. not (had nc z)) q d.waiting j).0;
          took = λ q j. elim j [
            | inl z ↦ (subst (λ z. In z ms) (sym z) i, subst (Had nc) (sym z) (had_now l ms d.clock p m c.closed i x))
            | inr k ↦ ((c.took q k).0, omega (arith, (c.took q k).1, tick_up d.clock p.from q.from))
          ];
          took_all = λ q j h. elim (had_then l ms m d.clock p q i j x h) [ inl z ↦ inl z | inr o ↦ inr (c.took_all q j o) ];
          ordered = (λ q j h. c.took_all q j (omega (arith, h, x.1 q.from)), c.ordered);
          knows = ks;
          log = log_pruned l ms d.me (set d.known d.me nc) nc grown ks.long
              (log_take l ms d.me (set d.known d.me nc) d.clock d.log p m i (in_clock l ms d.clock m c.closed p i) x
              (log_known l ms d.me d.known (set d.known d.me nc) d.clock d.log
              (row_up d.known d.me nc (λ q. omega (arith, c.knows.of_me q, tick_up d.clock p.from q))) c.log));
          log_fits = omega (arith, length_kept (λ z. not (all_have (set d.known d.me nc) z)) grown, grown_fits);
          queue_fits = omega (arith, length_kept (λ z. not (had nc z)) d.waiting, c.queue_fits);
        }
      where
        x : Next d.clock p
        x = next_of d p e

        nc : Clock
        nc = tick d.clock p.from

        ks : Knows l cs d.me nc (set d.known d.me nc)
        ks = knows_take l cs d.me d.clock nc d.known (tick_up d.clock p.from) c.knows

        grown : List (Put B)
        grown = cond (eqb p.from d.me) (p ∷ d.log) d.log

        grown_fits : length grown ≤ l.log_most
        grown_fits = cond_both (eqb p.from d.me) (p ∷ d.log) d.log (λ z. length z ≤ l.log_most) (λ t. omega (arith, room (eqb-true p.from d.me t))) (λ _. c.log_fits)

    -- a put waits
    pub core_hold : (d : Delivery B) (ts : List (Put B)) (p : Put B) → Core l ms cs d ts → In p ms → length d.waiting < l.waiting_most → Core l ms cs (enqueued p d) ts
    core_hold d ts p c i room =
        record {
          closed = c.closed;
          waits = λ q j. elim (in_append q d.waiting (p ∷ []) j) [ inl k ↦ c.waits q k | inr k ↦ elim k [ inl e ↦ subst (λ z. In z ms) (sym e) i | inr z ↦ absurd z ] ];
          took = c.took;
          took_all = c.took_all;
          ordered = c.ordered;
          knows = c.knows;
          log = c.log;
          log_fits = c.log_fits;
          queue_fits = omega (arith, length_push d.waiting p);
        }

    -- more is known of replica j
    pub core_learn : (d : Delivery B) (ts : List (Put B)) (j : ℕ) (e : Clock) → Core l ms cs d ts → TrueClaim cs d.me d.clock j e → Core l ms cs (learned j e d) ts
    core_learn d ts j e c t =
        record {
          closed = c.closed;
          waits = c.waits;
          took = c.took;
          took_all = c.took_all;
          ordered = c.ordered;
          knows = k;
          log = log_pruned l ms d.me ks d.clock d.log k.long
              (log_known l ms d.me d.known ks d.clock d.log (row_up d.known j (join (get_or d.known j []) e) (join_up (get_or d.known j []) e)) c.log);
          log_fits = omega (arith, length_kept (λ z. not (all_have ks z)) d.log, c.log_fits);
          queue_fits = c.queue_fits;
        }
      where
        ks : List Clock
        ks = set d.known j (join (get_or d.known j []) e)

        k : Knows l cs d.me d.clock ks
        k = knows_learn l cs d.me d.clock d.known j e t c.knows

    -- SETTLING. While puts are taken, own ones stay had; so those taken are others'.
    abbrev pub Going : Delivery B → List (Put B) → Type 0
    Going d ts = Core l ms cs d ts × Own ms d.me d.clock

    pub going_take : Made l ms → (d : Delivery B) (ts : List (Put B)) (p : Put B) → Going d ts → In p ms → ready d p ≡ true → Going (counted p d) (p ∷ ts)
    going_take m d ts p g i e = (
      core_take d ts p m g.0 i e (λ f. absurd (ready_is_others ms d.me d.clock p g.1 i (next_of d p e) f)),
      λ q j f. omega (arith, g.1 q j f, tick_up d.clock p.from d.me),
    )

    no_in : (ws : List (Put B)) → length ws ≤ 0 → (p : Put B) → In p ws → ⊥
    no_in [] b p j = j
    no_in (w ∷ ws) b p j = omega arith

    -- with as replicate turns as puts that wait, none is ready in the end; ts were taken before
    pub settle_sound : Made l ms → (ts : List (Put B)) (n : ℕ) (m : Run B) → Going m.now (m.taken ++ ts) → length m.now.waiting ≤ n → Sound l ms cs (settle n m).now ((settle n m).taken ++ ts)
    unfolding settle
    settle_sound md ts zero m g b = record { core = g.0; own = g.1; quiet = λ p j e. no_in m.now.waiting b p j }
    settle_sound md ts (suc n) m g b =
        settle_turn (λ z. Sound l ms cs z.now (z.taken ++ ts)) n m
        (λ p j e.
        let i : In p ms = g.0.waits p j in
        let c : Clock = tick m.now.clock p.from in
        let h : had c p ≡ true = le-leb (number p) (at c p.from) (had_now l ms m.now.clock p md g.0.closed i (next_of m.now p e)) in
        settle_sound md ts n (take_one p m) (going_take md m.now (m.taken ++ ts) p g i e)
        (omega (arith, fewer_kept (λ z. not (had c z)) p m.now.waiting j (not_from_true (had c p) h))))
        (λ q. record { core = g.0; own = g.1; quiet = q })

    -- THE EVENTS. A put that was made comes, and finds room if it has to wait
    pub sound_deliver : Made l ms → (d : Delivery B) (ts : List (Put B)) (p : Put B) → Sound l ms cs d ts → In p ms →
        (nothing_new d p ≡ false → ready d p ≡ false → length d.waiting < l.waiting_most) → Sound l ms cs (deliver l p d).now ((deliver l p d).taken ++ ts)
    sound_deliver md d ts p s i room =
        deliver_is (λ z. Sound l ms cs z.now (z.taken ++ ts)) l p d s
        (λ _ e.
        let g : Going (counted p d) (p ∷ ts) = going_take md d ts p (s.core, s.own) i e in
        settle_sound md ts l.waiting_most (take_one p (begin d)) g g.0.queue_fits)
        (λ n e. record {
          core = core_hold d ts p s.core i (room n e);
          own = s.own;
          quiet = λ q j f. elim (in_append q d.waiting (p ∷ []) j) [
            | inl k ↦ s.quiet q k f
            | inr k ↦ elim k [ inl z ↦ both_ways (ready d p) e (subst (λ y. ready d y ≡ true) z f) | inr z ↦ z ]
          ];
        })

    pub sound_learn : (d : Delivery B) (ts : List (Put B)) (j : ℕ) (e : Clock) → Sound l ms cs d ts → TrueClaim cs d.me d.clock j e → Sound l ms cs (learned j e d) ts
    sound_learn d ts j e s t = record { core = core_learn d ts j e s.core t; own = s.own; quiet = s.quiet }

    -- another replica's put is made
    pub sound_more : (d : Delivery B) (ts : List (Put B)) (r : Put B) → Made l ms → Fresh ms r → r.from ≢ d.me → Sound l ms cs d ts → Sound l (r ∷ ms) cs d ts
    sound_more d ts r m n x s = record { core = core_more d ts r m n s.core; own = ow; quiet = s.quiet }
      where
        ow : (p : Put B) → In p (r ∷ ms) → p.from ≡ d.me → number p ≤ at d.clock d.me
        ow p (inl e) f = absurd (x (sym (ap (λ z. z.from) e) ∙ f))
        ow p (inr j) f = s.own p j f

    -- an own put is new
    pub own_fresh : (b : B) (d : Delivery B) → Own ms d.me d.clock → Fresh ms (stamped b d)
    own_fresh b d o = λ q i e n. omega (arith, o q i e, n)

  -- an own put is made and taken: it makes nothing ready
  pub sound_own : (l : Limits) (ms : List (Put B)) (cs : ℕ → Clock) (d : Delivery B) (ts : List (Put B)) (b : B) → Made l ms → Made l (stamped b d ∷ ms) →
      d.me < l.replicas → length d.log < l.log_most → Sound l ms cs d ts → Sound l (stamped b d ∷ ms) cs (counted (stamped b d) d) (stamped b d ∷ ts)
  sound_own l ms cs d ts b md m me room s =
      record {
        core = core_take l (stamped b d ∷ ms) cs d ts (stamped b d) m (core_more l ms cs d ts (stamped b d) md (own_fresh l ms cs b d s.own) s.core) (inl refl) (own_ready b d) (λ _. room);
        own = ow;
        quiet = λ q j e. qu q (in_kept (λ z. not (had nc z)) q d.waiting j).0 (next_of (counted (stamped b d) d) q e);
      }
    where
      nc : Clock
      nc = tick d.clock d.me

      grew : at nc d.me ≡ suc (at d.clock d.me)
      grew = tick_same d.clock d.me (subst (λ z. d.me < z) (sym s.core.closed.long) me)

      ow : (q : Put B) → In q (stamped b d ∷ ms) → q.from ≡ d.me → number q ≤ at nc d.me
      ow q (inl e) f = omega (arith, ap number e, grew)
      ow q (inr j) f = omega (arith, s.own q j f, tick_up d.clock d.me d.me)

      qu : (q : Put B) → In q d.waiting → Next nc q → ⊥
      qu q k x =
          let j : In q ms = s.core.waits q k in
          let ne : d.me ≢ q.from = λ z. omega (arith, s.own q j (sym z), x.0, tick_up d.clock d.me q.from, ap (at d.clock) z) in
          s.quiet q k (ready_of d q (
            omega (arith, x.0, tick_other d.clock d.me q.from ne),
            λ n. elim (cases_eq d.me n) [
              | inl z ↦ subst (λ y. at q.seen y ≤ at d.clock y) z (own_most l ms d.me d.clock q.seen s.own (md.seen_closed q j))
              | inr z ↦ omega (arith, x.1 n, tick_other d.clock d.me n z)
            ],
          ))

  -- other clocks go on
  pub sound_clocks : (l : Limits) (ms : List (Put B)) (cs es : ℕ → Clock) (d : Delivery B) (ts : List (Put B)) → ((j : ℕ) → Below (cs j) (es j)) → Sound l ms cs d ts → Sound l ms es d ts
  sound_clocks l ms cs es d ts f s =
      let c : Core l ms cs d ts = s.core in
      record {
        core = record {
          closed = c.closed;
          waits = c.waits;
          took = c.took;
          took_all = c.took_all;
          ordered = c.ordered;
          knows = record { long = c.knows.long; of_me = c.knows.of_me; of_other = λ j b n q. omega (arith, c.knows.of_other j b n q, f j q) };
          log = c.log;
          log_fits = c.log_fits;
          queue_fits = c.queue_fits;
        };
        own = s.own;
        quiet = s.quiet;
      }
