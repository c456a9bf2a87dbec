-- Every event leaves a valid state valid.
use Rattle.std.proofs.Common.{◌≡◌, ℕ, zero, suc, ◌<◌, ◌≤◌, Bool, true, false, cond, not, ◌≢◌, List, [], ◌∷◌, ◌++◌, length, get_or, set, filter, sym, refl, ◌∙◌, subst, arith}
use Rattle.std.proofs.lemmas.List.{length_push}
use Rattle.std.proofs.lemmas.Bool.{and_parts}
use Rattle.model.specs.Limits.{Limits}
use Rattle.model.specs.Clock.{Clock, join, tick}
use Rattle.model.specs.Put.{Put, Body, had}
use Rattle.model.specs.Delivery.{Run, all_have, begin, lacking, learned, pruned, ready, stamped, take_one, settle}
use Rattle.model.specs.Store.{Store, stored, stored_all}
use Rattle.model.specs.Program.{readable}
use Rattle.model.specs.Replica.{Replica, Event, put, get, came, has, tell, garbled, event_number, in_range, refusal, moved, moves, after}
use Rattle.model.proofs.Replica.{Passed, after_accepted, passed, refusal_changes_nothing}
use Rattle.model.proofs.Steps.{deliver_is, own_ready, settle_keeps}
use Rattle.puts.specs.Values.{Small}
use Rattle.puts.proofs.Padded.{join_length}
use Rattle.memory.specs.State.{with_clock, with_known, with_log, with_store, with_waiting}
use Rattle.memory.specs.Valid.{Fits, Shaped, Sound, Valid}
use Rattle.memory.proofs.Sound.{came_sound, no_put}
use Rattle.memory.proofs.State.{fits_log}
use Rattle.logs.proofs.Changes.{cons_sound, fits_known, fits_tick, join_small, shaped_known, shaped_pruned}
use Rattle.logs.proofs.Logs.{in_at, kept_at}
use Rattle.delivery.specs.Steps.{followed, took}
use Rattle.delivery.proofs.Settled.{has_room, is_others}
use Rattle.delivery.proofs.Takes.{fits_stored, fits_waiting, next_small, push_at, room_of, shaped_cleaned, shaped_other, shaped_own, shaped_waiting, stamped_sound, took_other, took_own}
use Rattle.calls.proofs.Cases.{body_bytes, came_bytes, put_good}
use Rattle.calls.proofs.Told.{told_long}

-- a state each part of which has its place, with its log in shape
record Stands (l : Limits) (r : Replica) : Type 0 where
  pub fits : Fits l r
  pub shaped : Shaped l r.delivery

fewer : {A : Type 0} (f : A → Bool) (xs : List A) → length (filter f xs) ≤ length xs
fewer f [] = omega arith
fewer f (x ∷ xs) = let h = fewer f xs in elim (f x) as (λ b. length (cond b (x ∷ filter f xs) (filter f xs)) ≤ suc (length xs)) [ true ↦ omega arith | false ↦ omega arith ]

module _ (l : Limits) where
  -- of itself the replica knows its clock, and what all have leaves the log
  knows_itself : (r : Replica) → Stands l r → Stands l (followed r)
  knows_itself r s =
      let d = r.delivery in
      let f = s.fits.delivery in
      let r₁ = with_known (set d.known d.me d.clock) r in
      let ks = r₁.delivery.known in
      record {
        fits = fits_log l r₁ (pruned ks d.log) (fits_known l r d.me d.clock s.fits f.clock f.small) (kept_at (Sound l) (λ p. not (all_have ks p)) d.log no_put f.logs);
        shaped = shaped_pruned l r₁ (shaped_known l r ks s.shaped);
      }

  -- what is had leaves the queue
  sweeps : (r : Replica) → Stands l r → Stands l (with_waiting (lacking r.delivery.clock r.delivery.waiting) r)
  sweeps r s =
      let d = r.delivery in
      let f = s.fits.delivery in
      let lacks : Put Body → Bool = λ p. not (had d.clock p) in
      record {
        fits = fits_waiting l r (lacking d.clock d.waiting) s.fits (let h = fewer lacks d.waiting in omega (arith, f.room)) (kept_at (Sound l) lacks d.waiting no_put f.waits);
        shaped = shaped_cleaned l r s.shaped;
      }

  -- a put is taken: another's
  takes_other : (r : Replica) (q : Put Body) → Stands l r → Sound l q → ready r.delivery q ≡ true → q.from ≢ r.delivery.me → Stands l (took q r)
  takes_other r q s a n ne =
      let r₁ = with_clock (tick r.delivery.clock q.from) r in
      let r₂ = with_store (stored q r.store) r₁ in
      let s₂ : Stands l r₂ = record { fits = fits_stored l r₁ q (fits_tick l r q.from s.fits (next_small l r.delivery q a n)) a; shaped = shaped_other l r q.from s.shaped ne } in
      sweeps (with_waiting r.delivery.waiting (took q r)) (subst (Stands l) (took_other r q ne) (knows_itself r₂ s₂))

  -- an own one
  takes_own : (r : Replica) (q : Put Body) → Stands l r → Sound l q → ready r.delivery q ≡ true → q.from ≡ r.delivery.me → length r.delivery.log < l.log_most → Stands l (took q r)
  takes_own r q s a n e h =
      let d = r.delivery in
      let r₁ = with_clock (tick d.clock q.from) r in
      let r₂ = with_store (stored q r.store) r₁ in
      let f₂ = fits_stored l r₁ q (fits_tick l r q.from s.fits (next_small l d q a n)) a in
      let r₃ = with_log (q ∷ d.log) r₂ in
      let Q : ℕ → Type 0 = λ i. Shaped l (with_log (q ∷ d.log) (with_clock (tick d.clock i) r)).delivery in
      let s₃ : Stands l r₃ = record { fits = fits_log l r₂ (q ∷ d.log) f₂ (cons_sound l q d.log a s.fits.delivery.logs); shaped = subst Q (sym e) (shaped_own l r q s.fits s.shaped e n h) } in
      sweeps (with_waiting d.waiting (took q r)) (subst (Stands l) (took_own r q e) (knows_itself r₃ s₃))

  -- those that wait, one after the other
  settles : (n : ℕ) (m : Run Body) (s : Store) → Stands l (moved m s) → Stands l (moved (settle n m) s)
  unfolding stored_all
  settles n m s h =
      settle_keeps (λ (x : Run Body). Stands l (moved x s))
      (λ x p b i e.
      let f = b.fits.delivery in
      takes_other (moved x s) p b (in_at (Sound l) x.now.waiting p f.waits i) e (in_at (λ q. q.from ≢ x.now.me) x.now.waiting p b.shaped.others i))
      n m h

  -- a put waits
  waits : (r : Replica) (q : Put Body) → Stands l r → Sound l q → q.from ≢ r.delivery.me → length r.delivery.waiting < l.waiting_most → Stands l (with_waiting (r.delivery.waiting ++ (q ∷ [])) r)
  waits r q s a ne h =
      let ps = r.delivery.waiting in
      record {
        fits = fits_waiting l r (ps ++ (q ∷ [])) s.fits (omega (arith, length_push ps q)) (push_at (Sound l) ps q s.fits.delivery.waits a);
        shaped = shaped_waiting l r (ps ++ (q ∷ [])) s.shaped (push_at (λ p. p.from ≢ r.delivery.me) ps q s.shaped.others ne);
      }

  -- a clock is known
  learns : (r : Replica) (j : ℕ) (c : Clock) → Stands l r → j < l.replicas → Small c → Stands l (moved (begin (learned j c r.delivery)) r.store)
  unfolding stored_all
  learns r j c s h small =
      let d = r.delivery in
      let f = s.fits.delivery in
      let row = get_or d.known j [] in
      let r₁ = with_known (set d.known j (join row c)) r in
      let ks = r₁.delivery.known in
      record {
        fits = fits_log l r₁ (pruned ks d.log) (fits_known l r j (join row c) s.fits (join_length row c ∙ f.each j h) (join_small row c (f.each_small j h) small)) (kept_at (Sound l) (λ p. not (all_have ks p)) d.log no_put f.logs);
        shaped = shaped_pruned l r₁ (shaped_known l r ks s.shaped);
      }

  -- EACH EVENT that passes the checks
  moves_stand : (r : Replica) (e : Event) → Stands l r → l.replicas ≤ 16 → readable e ≡ true → in_range l e ≡ true → Passed l r.delivery e → Stands l (moved (moves l r.delivery e) r.store)
  unfolding moves stored_all readable
  moves_stand r (put b) s few rd g p =
      let room = room_of l r b p.has_log_room in
      takes_own r (stamped b r.delivery) s (stamped_sound l r b s.fits (body_bytes b rd) (put_good l b g) room.1) (own_ready b r.delivery) refl room.0
  moves_stand r (get k) s few rd g p = s
  moves_stand r (came q) s few rd g p =
      let a = came_sound l q few (came_bytes q rd) g in
      deliver_is (λ (x : Run Body). Stands l (moved x r.store)) l q r.delivery s
      (λ new rdy. settles l.waiting_most (take_one q (begin r.delivery)) r.store (takes_other r q s a rdy (is_others l r q new p.is_possible)))
      (λ new early. waits r q s a (is_others l r q new p.is_possible) (has_room l r q new early p.has_queue_room))
  moves_stand r (has j c) s few rd g p = let t = told_long l j c g in learns r j c s t.0 t.2
  moves_stand r tell s few rd g p = s
  moves_stand r (garbled n) s few rd g p = s

-- and any event
pub valid_after : (l : Limits) (r : Replica) (e : Event) → Valid l r → readable e ≡ true → Valid l (after l r e)
valid_after l r e v rd = go (refusal l r e) refl
  where
    go : (n : ℕ) → refusal l r e ≡ n → Valid l (after l r e)
    go zero z =
        let p = passed l r e z in
        let g = (and_parts (l.supports (event_number e)) (in_range l e) p.is_valid).1 in
        let s = moves_stand l r e (record { fits = v.fits; shaped = v.shaped }) v.few.replicas.1 rd g p in
        subst (Valid l) (sym (after_accepted l r e z)) (record { fits = s.fits; shaped = s.shaped; few = v.few })
    go (suc n) z = subst (Valid l) (sym (refusal_changes_nothing l r e (omega (arith, z)))) v
