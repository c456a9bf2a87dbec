-- A put is taken: the state stays valid.
use Rattle.std.proofs.Common.{◌≡◌, ℕ, suc, ◌+◌, ◌-◌, ◌<◌, ◌≤◌, Bool, true, false, cond, not, eqb, ltb, leb, ◌≢◌, List, [], ◌∷◌, ◌++◌, length, set, Some, None, Option, sym, refl, ap, ◌∙◌, subst, arith}
use Rattle.std.proofs.lemmas.List.{length_push, length-set}
use Rattle.std.proofs.ByRecursion.{All-get_or, All-from_get_or, All-push}
use Rattle.std.specs.Option.{MatchOption}
use Rattle.std.proofs.lemmas.Option.{MatchOption-at_none, MatchOption-at_some}
use Rattle.std.proofs.lemmas.Bool.{cond_both, ltb-true, leb-true, eqb-true, and_parts, eq-eqb, ne_eqb}
use Rattle.model.specs.Limits.{Limits, count_bound, value_most}
use Rattle.model.specs.Clock.{Clock, at, below, tick}
use Rattle.model.specs.Put.{Put, Body, number, later, had, key_of, value_of, good_body}
use Rattle.model.specs.Delivery.{Delivery, ready, lacking, pruned, begin, take_one, stamped}
use Rattle.model.specs.Store.{Store, stand, stored, stored_all, shown}
use Rattle.model.specs.Replica.{Replica, put, log_room, moved}
use Rattle.model.proofs.Lists.{set_split}
use Rattle.model.proofs.Clocks.{tick_same, tick_other}
use Rattle.puts.specs.Values.{Put as CodePut}
use Rattle.puts.specs.Values.{Small, Bytes, code_put, put_of}
use Rattle.puts.specs.Words.{Slot, slot_words, code_slot}
use Rattle.puts.proofs.Padded.{small_pad, later_code}
use Rattle.slots.specs.Image.{with_slot, with_word}
use Rattle.memory.specs.Image.{one, encode}
use Rattle.memory.specs.Valid.{Sound, SoundSlot, AllSound, Fits, FitsStore, Down, Shaped}
use Rattle.memory.specs.State.{with_clock, with_log, with_waiting, with_store, own_count}
use Rattle.memory.proofs.Sound.{no_put}
use Rattle.memory.proofs.State.{writes}
use Rattle.logs.specs.State.{Fitted, Holds}
use Rattle.logs.proofs.Logs.{AllAt, kept_at}
use Rattle.delivery.specs.Steps.{followed, took}
use Rattle.delivery.proofs.Reading.{none_some, some_some}

-- ANOTHER QUEUE
pub fits_waiting : (l : Limits) (r : Replica) (ws : List (Put Body)) → Fits l r → length ws ≤ l.waiting_most → AllSound l ws → Fits l (with_waiting ws r)
fits_waiting l r ws f h s =
    let v = f.delivery in
    record {
      delivery = record { replicas = v.replicas; me = v.me; clock = v.clock; small = v.small; known = v.known; each = v.each; each_small = v.each_small; room = h; waits = s; logs = v.logs };
      store = f.store;
    }

pub shaped_waiting : (l : Limits) (r : Replica) (ws : List (Put Body)) → Shaped l r.delivery → AllAt (λ p. p.from ≢ r.delivery.me) ws → Shaped l (with_waiting ws r).delivery
shaped_waiting l r ws s o = record { down = s.down; room = s.room; some = s.some; others = o }

pub push_at : (P : Put Body → Type 0) (ps : List (Put Body)) (q : Put Body) → AllAt P ps → P q → AllAt P (ps ++ one q)
push_at P ps q a b k d h = All-get_or P (ps ++ one q) k d h (All-push P ps q (All-from_get_or P ps q (λ i g. a i q g)) b)

pub enqueued_holds : (l : Limits) (r : Replica) (m m₁ m₂ ws : List ℕ) (q : Put Body) (k n : ℕ) → Holds l r m → Sound l q → q.from ≢ r.delivery.me → length r.delivery.waiting < l.waiting_most →
    k ≡ (l.keys + l.log_most) + length r.delivery.waiting → ws ≡ slot_words (one q) → n ≡ suc (length r.delivery.waiting) → m₁ ≡ with_slot k ws m → m₂ ≡ with_word 0 0 n m₁ →
    Holds l (with_waiting (r.delivery.waiting ++ one q) r) m₂
enqueued_holds l r m m₁ m₂ ws q k n h s ne lt ek ew en e₁ e₂ =
    let ps = r.delivery.waiting in
    let f = h.valid.fits in
    let P : Put Body → Type 0 = λ p. p.from ≢ r.delivery.me in
    let e : m₁ ≡ with_slot ((l.keys + l.log_most) + length ps) (slot_words (one q)) (encode l r) = e₁ ∙ (λ i. with_slot (ek i) (ew i) (h.mem i)) in
    record {
      valid = record {
        fits = fits_waiting l r (ps ++ one q) f (omega (arith, length_push ps q)) (push_at (Sound l) ps q f.delivery.waits s);
        shaped = shaped_waiting l r (ps ++ one q) h.valid.shaped (push_at P ps q h.valid.shaped.others ne);
        few = h.valid.few;
      };
      mem = e₂ ∙ (λ i. with_word 0 0 (en i) (e i)) ∙ (writes l r f).waits q lt;
    }

-- A PUT STANDS AT ITS KEY
stand_sound : (l : Limits) (q : Put Body) (s : Slot) → Sound l q → SoundSlot l s → SoundSlot l (stand q s)
unfolding SoundSlot stand
stand_sound l q [] a b = (a, refl)
stand_sound l q (x ∷ xs) a b = cond_both (later q x) (q ∷ []) (x ∷ []) (SoundSlot l) (λ _. (a, refl)) (λ _. (b.0, refl))

pub there_sound : (l : Limits) (s : Store) (q : Put Body) → FitsStore l s → Sound l q → SoundSlot l (shown s (key_of q.body))
there_sound l s q f a = f.stands (key_of q.body) (omega (arith, f.keys, a.key))

pub fits_stored : (l : Limits) (r : Replica) (q : Put Body) → Fits l r → Sound l q → Fits l (with_store (stored q r.store) r)
fits_stored l r q f a =
    let s = r.store in
    let k = key_of q.body in
    let x = stand q (shown s k) in
    let n = length-set s k x in
    record {
      delivery = f.delivery;
      store = record {
        keys = n ∙ f.store.keys;
        stands = λ i h. set_split (SoundSlot l) [] s k i x (λ _. stand_sound l q (shown s k) a (there_sound l s q f.store a)) (f.store.stands i (omega arith));
      };
    }

-- what stood there is none, or a put that is earlier: the new one is written
pub stood_new : (l : Limits) (r : Replica) (q : Put Body) (m m' ws : List ℕ) (k : ℕ) → Fitted l r m → Sound l q → q ∷ [] ≡ stand q (shown r.store (key_of q.body)) → k ≡ 0 + key_of q.body → ws ≡ slot_words (q ∷ []) →
    m' ≡ with_slot k ws m → Fitted l (with_store (stored q r.store) r) m'
stood_new l r q m m' ws k f s e ek ew em =
    let i = key_of q.body in
    record {
      fits = fits_stored l r q f.fits s;
      mem = em ∙ (λ j. with_slot (ek j) (ew j) (f.mem j)) ∙ (writes l r f.fits).stands i (q ∷ []) s.key ∙ ap (λ x. encode l (with_store (set r.store i x) r)) e;
    }

stand_none : (q : Put Body) (s : Slot) → ◌≡◌ {A = Option CodePut} None (code_slot s) → q ∷ [] ≡ stand q s
unfolding stand code_slot
stand_none q [] e = refl
stand_none q (x ∷ xs) e = absurd (none_some (code_put x) e)

-- what the code finds there
pub later_is : (l : Limits) (q : Put Body) (s : Slot) (p old : CodePut) (b : Bool) → Sound l q → SoundSlot l s → p ≡ code_put q → Some old ≡ code_slot s →
    (Small p.seen.counts → Small old.seen.counts → b ≡ later (put_of p) (put_of old)) → stand q s ≡ cond b (q ∷ []) s
unfolding stand code_slot SoundSlot
later_is l q [] p old b sq ss ep eo f = absurd (none_some old (sym eo))
later_is l q (x ∷ xs) p old b sq ss ep eo f =
    let e : old ≡ code_put x = some_some old (code_put x) eo in
    let sm : (z : Put Body) (y : CodePut) → Sound l z → y ≡ code_put z → Small y.seen.counts =
    λ z y a h. let P : CodePut → Type 0 = λ c. Small c.seen.counts in subst P (sym h) (small_pad 16 z.seen a.fit.seen a.small) in
    let g : b ≡ later q x = f (sm q p sq ep) (sm x old ss.0 e) ∙ (λ i. later (put_of (ep i)) (put_of (e i))) ∙ later_code q x sq.fit ss.0.fit in
    ap (λ t. cond t (q ∷ []) (x ∷ [])) (sym g) ∙ ap (λ t. cond b (q ∷ []) (x ∷ t)) (sym ss.1)

-- whether the new one is written
pub wins_is : (l : Limits) (q : Put Body) (s : Slot) (p : CodePut) (o : Option CodePut) (b : Bool) (P : CodePut → Type 0) → Sound l q → SoundSlot l s → p ≡ code_put q → o ≡ code_slot s → MatchOption o (b ≡ true) P →
    ((old : CodePut) → P old → Small p.seen.counts → Small old.seen.counts → b ≡ later (put_of p) (put_of old)) → stand q s ≡ cond b (q ∷ []) s
unfolding stand code_slot SoundSlot
wins_is l q [] p o b P sq ss ep eo m f = sym (ap (λ t. cond t (q ∷ []) []) (MatchOption-at_none _ _ eo m))
wins_is l q (x ∷ xs) p o b P sq ss ep eo m f = later_is l q (x ∷ xs) p (code_put x) b sq ss ep refl (f (code_put x) (MatchOption-at_some _ _ _ eo m))

pub key_code : (p : CodePut) (q : Put Body) → p ≡ code_put q → p.key ≡ key_of q.body
key_code p q e = ap (λ (x : CodePut). x.key) e

pub from_code : (p : CodePut) (q : Put Body) → p ≡ code_put q → p.from ≡ q.from
from_code p q e = ap (λ (x : CodePut). x.from) e

-- ONE MORE IS COUNTED
next_number : (d : Delivery Body) (q : Put Body) → ready d q ≡ true → number q ≡ suc (at d.clock q.from)
next_number d q e = eqb-true (number q) (suc (at d.clock q.from)) (and_parts (eqb (number q) (suc (at d.clock q.from))) (below q.seen d.clock) e).0

pub next_small : (l : Limits) (d : Delivery Body) (q : Put Body) → Sound l q → ready d q ≡ true → at d.clock q.from + 1 < count_bound
next_small l d q s e = omega (arith, s.fit.number, next_number d q e)

-- another's put: the log is as it was
pub shaped_other : (l : Limits) (r : Replica) (i : ℕ) → Shaped l r.delivery → i ≢ r.delivery.me → Shaped l (with_clock (tick r.delivery.clock i) r).delivery
shaped_other l r i s ne =
    let d = r.delivery in
    let P : ℕ → Type 0 = λ k. Down d.me k d.log in
    record { down = subst P (sym (tick_other d.clock i d.me ne)) s.down; room = s.room; some = s.some; others = s.others }

-- an own put: it is the first of the log
pub shaped_own : (l : Limits) (r : Replica) (q : Put Body) → Fits l r → Shaped l r.delivery → q.from ≡ r.delivery.me → ready r.delivery q ≡ true → length r.delivery.log < l.log_most →
    Shaped l (with_log (q ∷ r.delivery.log) (with_clock (tick r.delivery.clock r.delivery.me) r)).delivery
unfolding Down
shaped_own l r q f s e n h =
    let d = r.delivery in
    let k : ℕ = own_count r in
    let P : ℕ → Type 0 = λ x. Down d.me x (q ∷ d.log) in
    let Q : ℕ → Type 0 = λ x. Down d.me x d.log in
    let z : k ≡ suc k - 1 = omega arith in
    let a : at (tick d.clock d.me) d.me ≡ suc k = tick_same d.clock d.me (omega (arith, f.delivery.clock, f.delivery.me)) in
    let m : number q ≡ suc k = next_number d q n ∙ ap (λ i. suc (at d.clock i)) e in
    record { down = subst P (sym a) ((e, m), subst Q z s.down); room = omega arith; some = s.some; others = s.others }

-- what is counted of it is what the model counts, before the queue is gone through
took_by : (r : Replica) (q : Put Body) (b : Bool) → eqb q.from r.delivery.me ≡ b →
    followed (with_log (cond b (q ∷ r.delivery.log) r.delivery.log) (with_store (stored q r.store) (with_clock (tick r.delivery.clock q.from) r))) ≡ with_waiting r.delivery.waiting (took q r)
took_by r q b e =
    let d = r.delivery in
    let c : Clock = tick d.clock q.from in
    let ks : List Clock = set d.known d.me c in
    ap (λ x. record { delivery = record { me = d.me; clock = c; log = pruned ks (cond x (q ∷ d.log) d.log); waiting = d.waiting; known = ks }; store = stored q r.store }) (sym e)

pub took_other : (r : Replica) (q : Put Body) → q.from ≢ r.delivery.me → followed (with_store (stored q r.store) (with_clock (tick r.delivery.clock q.from) r)) ≡ with_waiting r.delivery.waiting (took q r)
took_other r q ne = took_by r q false (ne_eqb q.from r.delivery.me ne)

pub took_own : (r : Replica) (q : Put Body) → q.from ≡ r.delivery.me →
    followed (with_log (q ∷ r.delivery.log) (with_store (stored q r.store) (with_clock (tick r.delivery.clock q.from) r))) ≡ with_waiting r.delivery.waiting (took q r)
took_own r q e = took_by r q true (eq-eqb q.from r.delivery.me e)

-- and the store is that of the one taken
pub took_moves : (r : Replica) (q : Put Body) → took q r ≡ moved (take_one q (begin r.delivery)) r.store
unfolding stored_all
took_moves r q = refl

-- what is had waits no more: nothing own waits
pub shaped_cleaned : (l : Limits) (r : Replica) → Shaped l r.delivery → Shaped l (with_waiting (lacking r.delivery.clock r.delivery.waiting) r).delivery
shaped_cleaned l r s =
    let d = r.delivery in
    shaped_waiting l r (lacking d.clock d.waiting) s (kept_at (λ p. p.from ≢ d.me) (λ p. not (had d.clock p)) d.waiting no_put s.others)

-- AN OWN PUT that passes the checks
pub stamped_sound : (l : Limits) (r : Replica) (b : Body) → Fits l r → Bytes (value_of b) → good_body l b ≡ true → suc (own_count r) < count_bound → Sound l (stamped b r.delivery)
stamped_sound l r b f bs e n =
    let v = f.delivery in
    let a = and_parts (ltb (key_of b) l.keys) (leb (length (value_of b)) value_most) e in
    record {
      fit = record { value = leb-true (length (value_of b)) value_most a.1; bytes = bs; seen = omega (arith, v.clock, v.replicas); number = n };
      key = ltb-true (key_of b) l.keys a.0;
      from = v.me;
      seen = v.clock;
      small = v.small;
    }

pub room_of : (l : Limits) (r : Replica) (b : Body) → log_room l r.delivery (put b) ≡ true → (length r.delivery.log < l.log_most) × (suc (own_count r) < count_bound)
unfolding log_room
room_of l r b e =
    let n : ℕ = length r.delivery.log in
    let a = and_parts (ltb n l.log_most) (ltb (suc (own_count r)) count_bound) e in
    (ltb-true n l.log_most a.0, ltb-true (suc (own_count r)) count_bound a.1)
