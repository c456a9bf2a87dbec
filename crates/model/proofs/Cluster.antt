-- What holds of every reachable cluster.
use Rattle.std.proofs.Common.{◌≡◌, ℕ, ◌<◌, ◌≤◌, Bool, true, false, cond, ◌&&◌, eqb, ◌≢◌, ◌⊎◌, List, [], ◌∷◌, ◌++◌, length, get_or, replicate, sym, refl, ap, ◌∙◌, subst, inl, inr, arith}
use borrow.Author.Tests.{clash}
use Rattle.std.proofs.lemmas.Bool.Decides.{nat_tests}
use Rattle.std.proofs.lemmas.Bool.{ltb-true, eqb-true, eqb-false, cond-false, cond_both}
use Rattle.std.proofs.lemmas.List.{length-replicate}
use Rattle.model.specs.Lists.{In}
use Rattle.model.specs.Limits.{Limits}
use Rattle.model.specs.Clock.{Clock, new_clock, at, good_clock}
use Rattle.model.specs.Put.{Put, good_head, Body, good_body}
use Rattle.model.specs.Delivery.{Delivery, new_delivery, Run, stamped}
use Rattle.model.specs.Replica.{Replica, clock_of, Event, put, get, came, has, tell, garbled, Answer, refused, event_number, in_range, log_room, queue_room, refusal, accepted, place, moves, moved, says, takes}
use Rattle.model.specs.Cluster.{Told, Cluster, new_cluster, clock_at, update, is_put, puts_of, made_by, told_by, Allowed, Reachable, start, step}
use Rattle.model.proofs.Lists.{update_split, get_or_either}
use Rattle.model.proofs.Clocks.{Below}
use Rattle.model.proofs.Made.{Made, Fresh, made_more, closed_good}
use Rattle.model.proofs.Sound.{Sound, sound_deliver, sound_learn, sound_more, own_fresh, sound_own, sound_clocks}
use Rattle.model.proofs.Replica.{Passed, passed, moves_me, moves_up}

-- the puts that replica j has taken, the last first
unfoldable pub taken_at : (l : Limits) {w : Cluster} → Reachable l w → ℕ → List (Put Body)
taken_at l start j = []
taken_at l (step {w = w} i e x b a) j = update (taken_at l x) i (takes l (w.replica i) e ++ taken_at l x i) j

pub record Inv (l : Limits) (w : Cluster) (ts : ℕ → List (Put Body)) : Type 0 where
  pub me : (i : ℕ) → (w.replica i).delivery.me ≡ i
  pub made : Made l w.made
  pub bodies : (p : Put Body) → In p w.made → good_body l p.body ≡ true
  pub sound : (i : ℕ) → Sound l w.made (clock_at w) (w.replica i).delivery (ts i)
  pub told : (t : Told) → In t w.told → Below t.clock (clock_at w t.who)

-- AT THE START
at_zero : (n q : ℕ) → at (replicate n 0) q ≡ 0
at_zero n q = elim (get_or_either 0 n 0 q) [ inl e ↦ e | inr e ↦ e ]

sound_new : (l : Limits) (cs : ℕ → Clock) (i : ℕ) → Sound {B = Body} l [] cs (new_delivery l i) []
sound_new l cs i =
    record {
      core = record {
        closed = record { long = length-replicate l.replicas 0; deep = λ p x. absurd x; real = λ j n h. absurd (omega (arith, at_zero l.replicas j)) };
        waits = λ p x. x;
        took = λ p x. absurd x;
        took_all = λ p x h. x;
        ordered = tt;
        knows = record { long = length-replicate l.replicas (new_clock l); of_me = λ q. known i q (at (new_clock l) q); of_other = λ j b n q. known j q (at (cs j) q) };
        log = record { own = λ p x. absurd x; down = tt; logged = λ p x. absurd x };
        log_fits = omega arith;
        queue_fits = omega arith;
      };
      own = λ p x. absurd x;
      quiet = λ p x e. x;
    }
  where
    known : (j q n : ℕ) → at (get_or (replicate l.replicas (new_clock l)) j []) q ≤ n
    known j q n = elim (get_or_either [] l.replicas (new_clock l) j) [
      | inl e ↦ subst (λ (c : Clock). at c q ≤ n) (sym e) (omega (arith, at_zero l.replicas q))
      | inr e ↦ subst (λ (c : Clock). at c q ≤ n) (sym e) (omega arith)
    ]

inv_new : (l : Limits) → Inv l (new_cluster l) (λ i. [])
inv_new l =
    record {
      me = λ i. refl;
      made = record { good = λ p x. absurd x; one = λ p q x. absurd x; seen_closed = λ p x. absurd x };
      bodies = λ p x. absurd x;
      sound = sound_new l (λ _. new_clock l);
      told = λ t x. absurd x;
    }

-- WHAT AN EVENT MAKES AND TELLS: other than a put nothing, and the clock as it is
pub made_calm : (e : Event) (a : Answer) → is_put e ≡ false → made_by e a ≡ []
made_calm e a c = cond-false (is_put e) (puts_of a) [] c

made_refused : (e : Event) (n k : ℕ) → made_by e (refused n k) ≡ []
unfolding puts_of
made_refused e n k = cond_both (is_put e) (puts_of (refused n k)) [] (λ z. z ≡ []) (λ _. refl) (λ _. refl)

told_new : (r : Replica) (i : ℕ) (e : Event) (us : List Told) (t : Told) → In t (told_by i (says r e) ++ us) → In t us ⊎ ((t.who ≡ i) × (t.clock ≡ clock_of r))
unfolding told_by says
told_new r i (put b) us t x = inl x
told_new r i (get j) us t x = inl x
told_new r i (came p) us t x = inl x
told_new r i (has j c) us t x = inl x
told_new r i tell us t x = elim x [ inl d ↦ inr (ap (λ z. z.who) d, ap (λ z. z.clock) d) | inr y ↦ inl y ]
told_new r i (garbled j) us t x = inl x

-- AN EVENT AT REPLICA i of a cluster in which all holds
module _ (l : Limits) (w : Cluster) (ts : ℕ → List (Put Body)) (v : Inv l w ts) (i : ℕ) where
  abbrev d : Delivery Body
  d = (w.replica i).delivery

  -- it becomes r, which is sound among the others as they were; and so are they with the puts ms made now
  inv_step : (r : Replica) (qs ms : List (Put Body)) (us : List Told) → r.delivery.me ≡ i → Made l ms → ((p : Put Body) → In p ms → good_body l p.body ≡ true) →
      Below (clock_at w i) (clock_of r) → Sound l ms (clock_at w) r.delivery qs → ((j : ℕ) → i ≢ j → Sound l ms (clock_at w) (w.replica j).delivery (ts j)) →
      ((t : Told) → In t us → In t w.told ⊎ ((t.who ≡ i) × (t.clock ≡ clock_at w i))) → Inv l (record { replica = update w.replica i r; made = ms; told = us }) (update ts i qs)
  inv_step r qs ms us me m bd up here there tl =
      record {
        me = λ j. update_split (λ z. z.delivery.me ≡ j) w.replica i r j (λ e. me ∙ e) (λ _. v.me j);
        made = m;
        bodies = bd;
        sound = so;
        told = λ t x. elim (tl t x) [
          | inl y ↦ λ q. omega (arith, v.told t y q, on t.who q)
          | inr y ↦ λ q. omega (arith, ap (λ c. at c q) y.1, ap (λ n. at (clock_at w n) q) y.0, on t.who q)
        ];
      }
    where
      cs : ℕ → Clock
      cs = λ n. clock_of (update w.replica i r n)

      on : (j : ℕ) → Below (clock_at w j) (cs j)
      on j q = update_split (λ z. at (clock_at w j) q ≤ at (clock_of z) q) w.replica i r j (λ e. subst (λ n. at (clock_at w n) q ≤ at (clock_of r) q) e (up q)) (λ _. omega arith)

      so : (j : ℕ) → Sound l ms cs (update w.replica i r j).delivery (update ts i qs j)
      so j = both (eqb i j) refl
        where
          both : (b : Bool) → eqb i j ≡ b → Sound l ms cs (cond b r (w.replica j)).delivery (cond b qs (ts j))
          both true e = sound_clocks l ms (clock_at w) cs r.delivery qs on here
          both false e = sound_clocks l ms (clock_at w) cs (w.replica j).delivery (ts j) on (there j (eqb-false i j e))

  -- the cluster that comes of an event that passed or not, and what was taken then
  abbrev outcome : Event → Bool → Cluster
  outcome e b =
      let r : Replica = w.replica i in
      let a : Answer = cond b (says r e) (refused (refusal l r e) (place e)) in
      record { replica = update w.replica i (cond b (moved (moves l r.delivery e) r.store) r); made = made_by e a ++ w.made; told = told_by i a ++ w.told }

  abbrev Holds : Event → Bool → Type 0
  Holds e b = Inv l (outcome e b) (update ts i (cond b (moves l d e).taken [] ++ ts i))

  -- refused: nothing changes
  inv_refused : (e : Event) → Holds e false
  unfolding told_by
  inv_refused e =
      let r : Replica = w.replica i in
      subst (λ ms. Inv l (record { replica = update w.replica i r; made = ms ++ w.made; told = w.told }) (update ts i (ts i))) (sym (made_refused e (refusal l r e) (place e)))
      (inv_step r (ts i) w.made w.told (v.me i) v.made v.bodies (λ j. omega arith) (v.sound i) (λ j _. v.sound j) (λ t x. inl x))

  -- other than a put
  sound_calm : (e : Event) → Allowed w e → is_put e ≡ false → queue_room l d e ≡ true → Sound l w.made (clock_at w) (moves l d e).now ((moves l d e).taken ++ ts i)
  unfolding moves queue_room is_put
  sound_calm (put b) a c q = absurd (clash (sym c))
  sound_calm (get k) a c q = v.sound i
  sound_calm (came p) a c q = sound_deliver l w.made (clock_at w) v.made d (ts i) p (v.sound i) a (λ n r. ltb-true (length d.waiting) l.waiting_most (grind arith))
  sound_calm (has j e) a c q =
      let t : Below e (clock_at w j) = v.told (record { who = j; clock = e }) a in
      sound_learn l w.made (clock_at w) d (ts i) j e (v.sound i) (λ z n. rw (v.me i) at (rw (sym z) at (t n)), λ _. t)
  sound_calm tell a c q = v.sound i
  sound_calm (garbled n) a c q = v.sound i

  inv_calm : (e : Event) → Allowed w e → is_put e ≡ false → Passed l d e → Holds e true
  inv_calm e a c ok =
      let r : Replica = w.replica i in
      let m : Run Body = moves l d e in
      let us : List Told = told_by i (says r e) ++ w.told in
      subst (λ ms. Inv l (record { replica = update w.replica i (moved m r.store); made = ms ++ w.made; told = us }) (update ts i (m.taken ++ ts i))) (sym (made_calm e (says r e) c))
      (inv_step (moved m r.store) (m.taken ++ ts i) w.made us (moves_me l d e ∙ v.me i) v.made v.bodies (moves_up l d e)
      (sound_calm e a c ok.has_queue_room) (λ j _. v.sound j) (told_new r i e w.told))

  -- a put
  own_good : (b : Body) → i < l.replicas → log_room l d (put b) ≡ true → good_head l (stamped b d) ≡ true
  unfolding log_room
  own_good b h r =
      let g : good_clock l d.clock ≡ true = closed_good l w.made d.clock v.made (v.sound i).core.closed in
      let m : d.me < l.replicas = rw (v.me i) h in
      grind (arith, nat_tests)

  inv_put : (b : Body) → i < l.replicas → Passed l d (put b) → Holds (put b) true
  unfolding moves says is_put puts_of told_by in_range log_room
  inv_put b h ok =
      inv_step (moved (moves l d (put b)) (w.replica i).store) (p ∷ ts i) (p ∷ w.made) w.told (v.me i) md
      (λ q x. elim x [ inl e ↦ subst (λ z. good_body l z.body ≡ true) (sym e) bd | inr j ↦ v.bodies q j ])
      (moves_up l d (put b))
      (sound_own l w.made (clock_at w) d (ts i) b v.made md (rw (v.me i) h) (ltb-true (length d.log) l.log_most (grind arith)) s)
      (λ j n. sound_more l w.made (clock_at w) (w.replica j).delivery (ts j) p v.made fresh (λ e. n (sym (v.me i) ∙ (e ∙ v.me j))) (v.sound j))
      (λ t x. inl x)
    where
      p : Put Body
      p = stamped b d

      s : Sound l w.made (clock_at w) d (ts i)
      s = v.sound i

      room : log_room l d (put b) ≡ true
      room = ok.has_log_room

      bd : good_body l b ≡ true
      bd = let both : (l.supports (event_number (put b)) && good_body l b) ≡ true = ok.is_valid in grind arith

      fresh : Fresh w.made p
      fresh = own_fresh l w.made (clock_at w) b d s.own

      md : Made l (p ∷ w.made)
      md = made_more l w.made p v.made fresh s.core.closed (own_good b h room)

  inv_accepted : (e : Event) → i < l.replicas → Allowed w e → Passed l d e → Holds e true
  unfolding is_put
  inv_accepted (put b) h a ok = inv_put b h ok
  inv_accepted (get k) h a ok = inv_calm (get k) a refl ok
  inv_accepted (came p) h a ok = inv_calm (came p) a refl ok
  inv_accepted (has j c) h a ok = inv_calm (has j c) a refl ok
  inv_accepted tell h a ok = inv_calm tell a refl ok
  inv_accepted (garbled n) h a ok = inv_calm (garbled n) a refl ok

  inv_outcome : (e : Event) → i < l.replicas → Allowed w e → (b : Bool) → accepted l (w.replica i) e ≡ b → Holds e b
  inv_outcome e h a true t = inv_accepted e h a (passed l (w.replica i) e (eqb-true (refusal l (w.replica i) e) 0 t))
  inv_outcome e h a false t = inv_refused e

pub inv : (l : Limits) {w : Cluster} (x : Reachable l w) → Inv l w (taken_at l x)
unfolding taken_at
inv l start = inv_new l
inv l (step {w = w} i e x b a) = inv_outcome l w (taken_at l x) (inv l x) i e b a (accepted l (w.replica i) e) refl
