-- What the reads and writes of the header and the log mean for a state in its memory.
use Rattle.std.proofs.Common.{◌≡◌, ℕ, zero, suc, ◌+◌, ◌-◌, ◌%◌, ◌<◌, ◌≤◌, List, [], ◌∷◌, length, take, set, sym, refl, ap, ◌∙◌, subst, arith}
use Rattle.std.proofs.lemmas.List.{length-set, length-take}
use Rattle.model.specs.Limits.{Limits, count_bound}
use Rattle.model.specs.Clock.{Clock, at, join, tick}
use Rattle.model.specs.Put.{Put, Body, number}
use Rattle.model.specs.Delivery.{pruned, begin}
use Rattle.model.specs.Store.{stored_all}
use Rattle.model.specs.Replica.{Replica, moved}
use Rattle.model.proofs.Lists.{set_split}
use Rattle.model.proofs.Clocks.{join_split}
use Rattle.puts.specs.declared.Clock.{Clock as CodeClock}
use Rattle.puts.specs.Values.{Small, code_clock, clock_size, pad}
use Rattle.puts.specs.Words.{slot_words}
use Rattle.puts.proofs.Padded.{join_pad}
use Rattle.slots.specs.Image.{with_slot, with_row, with_word}
use Rattle.memory.specs.Image.{one, encode}
use Rattle.memory.specs.Valid.{Sound, AllSound, Fits, Down, Shaped}
use Rattle.memory.specs.State.{with_clock, with_log, with_known, own_count}
use Rattle.memory.proofs.Rings.{down_take}
use Rattle.memory.proofs.State.{fits_log, sound_take, writes}
use Rattle.logs.specs.declared.Replica.{Replica as Lent}
use Rattle.logs.specs.declared.View.{View}
use Rattle.logs.specs.declared.place.Place.{Place}
use Rattle.logs.specs.State.{Fitted, Holds, Laid, StandsIn, HeldIn, Stands, Held, Seen, SeenValid, Same}
use Rattle.logs.specs.Log.{least}
use Rattle.logs.proofs.Logs.{pruned_is}

pub fitted : (l : Limits) (r : Replica) (m : List ℕ) → Holds l r m → Fitted l r m
fitted l r m h = record { fits = h.valid.fits; mem = h.mem }

pub holds : (l : Limits) (r r' : Replica) (m m' : List ℕ) → Holds l r m → Shaped l r'.delivery → Fitted l r' m' → Holds l r' m'
holds l r r' m m' h s f = record { valid = record { fits = f.fits; shaped = s; few = h.valid.few }; mem = f.mem }

-- the same of a replica in its memory
pub stands_in : (l : Limits) (r : Replica) (m : List ℕ) (x : Place) → HeldIn l r m x → StandsIn l r m x
stands_in l r m x h = record { fitted = fitted l r m h.holds; laid = h.laid }

pub stands : (l : Limits) (r : Replica) (x : Lent) → Held l r x → Stands l r x
stands l r x h = stands_in l r x.mem.now x.at h

-- it is seen as it stands
pub seen : (l : Limits) (r : Replica) (x : Lent) (v : View) → (v.mem.now ≡ x.mem.now) × (v.at ≡ x.at) → Stands l r x → Seen l r v
seen l r x v e s = record { fitted = subst (Fitted l r) (sym e.0) s.fitted; laid = subst (Laid l r.delivery.me) (sym e.1) s.laid }

pub seen_valid : (l : Limits) (r : Replica) (x : Lent) (v : View) → (v.mem.now ≡ x.mem.now) × (v.at ≡ x.at) → Held l r x → SeenValid l r v
seen_valid l r x v e h = record { holds = subst (Holds l r) (sym e.0) h.holds; laid = subst (Laid l r.delivery.me) (sym e.1) h.laid }

-- the memory and the place stay
pub still : (x y z : Lent) → Same x y → Same y z → Same x z
still x y z s t = record { mem = t.mem ∙ s.mem; at = t.at ∙ s.at }

-- and so does where the parts lie
pub laid_still : (l : Limits) (i : ℕ) (x y : Lent) → Same x y → Laid l i x.at → Laid l i y.at
laid_still l i x y s w = subst (Laid l i) (sym s.at) w

-- nothing is taken, and the store is as it was
pub begun : (r : Replica) → moved (begin r.delivery) r.store ≡ r
unfolding stored_all
begun r = refl

-- EACH PART FITS: the clock
pub fits_tick : (l : Limits) (r : Replica) (i : ℕ) → Fits l r → at r.delivery.clock i + 1 < count_bound → Fits l (with_clock (tick r.delivery.clock i) r)
fits_tick l r i f h =
    let v = f.delivery in
    let c = r.delivery.clock in
    record {
      delivery = record {
        replicas = v.replicas;
        me = v.me;
        clock = length-set c i (suc (at c i)) ∙ v.clock;
        small = λ k. set_split (λ n. n < count_bound) 0 c i k (suc (at c i)) (λ _. omega arith) (v.small k);
        known = v.known;
        each = v.each;
        each_small = v.each_small;
        room = v.room;
        waits = v.waits;
        logs = v.logs;
      };
      store = f.store;
    }

-- what is known
pub fits_known : (l : Limits) (r : Replica) (i : ℕ) (c : Clock) → Fits l r → length c ≡ l.replicas → Small c → Fits l (with_known (set r.delivery.known i c) r)
fits_known l r i c f n s =
    let v = f.delivery in
    let ks = r.delivery.known in
    record {
      delivery = record {
        replicas = v.replicas;
        me = v.me;
        clock = v.clock;
        small = v.small;
        known = length-set ks i c ∙ v.known;
        each = λ k h. set_split (λ x. length x ≡ l.replicas) [] ks i k c (λ _. n) (v.each k h);
        each_small = λ k h. set_split Small [] ks i k c (λ _. s) (v.each_small k h);
        room = v.room;
        waits = v.waits;
        logs = v.logs;
      };
      store = f.store;
    }

pub cons_sound : (l : Limits) (p : Put Body) (ps : List (Put Body)) → Sound l p → AllSound l ps → AllSound l (p ∷ ps)
cons_sound l p ps a b zero d h = a
cons_sound l p ps a b (suc k) d h = b k d (omega arith)

-- THE SHAPE OF THE LOG STAYS
pub shaped_known : (l : Limits) (r : Replica) (ks : List Clock) → Shaped l r.delivery → Shaped l (with_known ks r).delivery
shaped_known l r ks s = record { down = s.down; room = s.room; some = s.some; others = s.others }

pub shaped_pruned : (l : Limits) (r : Replica) → Shaped l r.delivery → Shaped l (with_log (pruned r.delivery.known r.delivery.log) r).delivery
shaped_pruned l r s =
    let d = r.delivery in
    let k : ℕ = own_count r in
    let e = pruned_is d.known d.log d.me k s.down in
    let n : ℕ = k - least k d.me d.known in
    let P : List (Put Body) → Type 0 = Down d.me k in
    record { down = subst P (sym e) (down_take d.me k d.log n s.down); room = omega (arith, s.room, ap length e, length-take n d.log); some = s.some; others = s.others }

-- THE STATE AFTER A WRITE
module _ (l : Limits) (r : Replica) (m : List ℕ) (f : Fitted l r m) where
  -- one more is counted
  pub ticked : (m' : List ℕ) (i x : ℕ) → i < l.replicas → at r.delivery.clock i + 1 < count_bound → x ≡ suc (at r.delivery.clock i) → m' ≡ with_word 1 i x m → Fitted l (with_clock (tick r.delivery.clock i) r) m'
  ticked m' i x h s ex e =
      record { fits = fits_tick l r i f.fits s; mem = e ∙ (λ k. with_word 1 i (ex k) (f.mem k)) ∙ (writes l r f.fits).count i (suc (at r.delivery.clock i)) h }

  -- a row of what is known
  pub knows : (m' x : List ℕ) (i : ℕ) (c : Clock) → i < l.replicas → length c ≡ l.replicas → Small c → x ≡ pad clock_size c → m' ≡ with_row (2 + i) x m → Fitted l (with_known (set r.delivery.known i c) r) m'
  knows m' x i c h n s ex e = record { fits = fits_known l r i c f.fits n s; mem = e ∙ (λ k. with_row (2 + i) (ex k) (f.mem k)) ∙ (writes l r f.fits).known i c h }

  -- an own put is in the log
  pub pushed : (m₁ m₂ ws : List ℕ) (q : Put Body) (k n : ℕ) → 0 < l.log_most → Sound l q → k ≡ l.keys + number q % l.log_most → ws ≡ slot_words (one q) → n ≡ suc (length r.delivery.log) →
      m₁ ≡ with_slot k ws m → m₂ ≡ with_word 0 1 n m₁ → Fitted l (with_log (q ∷ r.delivery.log) r) m₂
  pushed m₁ m₂ ws q k n z s ek ew en e₁ e₂ =
      let e : m₁ ≡ with_slot (l.keys + number q % l.log_most) (slot_words (one q)) (encode l r) = e₁ ∙ (λ i. with_slot (ek i) (ew i) (f.mem i)) in
      record {
        fits = fits_log l r (q ∷ r.delivery.log) f.fits (cons_sound l q r.delivery.log s f.fits.delivery.logs);
        mem = e₂ ∙ (λ i. with_word 0 1 (en i) (e i)) ∙ (writes l r f.fits).logs q z;
      }

-- the last of its front leaves
pub shorter : (l : Limits) (r : Replica) (m m₁ m₂ ws : List ℕ) (k j : ℕ) → Fits l r → Shaped l r.delivery → j < length r.delivery.log → k ≡ l.keys + (own_count r - j) % l.log_most → ws ≡ slot_words [] →
    m₁ ≡ with_slot k ws m → m₂ ≡ with_word 0 1 j m₁ → Fitted l (with_log (take (suc j) r.delivery.log) r) m → Fitted l (with_log (take j r.delivery.log) r) m₂
shorter l r m m₁ m₂ ws k j v s h ek ew e₁ e₂ g =
    let e : m₁ ≡ with_slot (l.keys + (own_count r - j) % l.log_most) (slot_words []) (encode l (with_log (take (suc j) r.delivery.log) r)) = e₁ ∙ (λ i. with_slot (ek i) (ew i) (g.mem i)) in
    record {
      fits = fits_log l r (take j r.delivery.log) v (sound_take l r.delivery.log j v.delivery.logs);
      mem = e₂ ∙ ap (with_word 0 1 j) e ∙ (writes l r v).unlogs s j h;
    }

pub pruned_fits : (l : Limits) (r : Replica) (m : List ℕ) (n own : ℕ) → Shaped l r.delivery → own ≡ own_count r → n ≡ own - least own r.delivery.me r.delivery.known →
    Fitted l (with_log (take n r.delivery.log) r) m → Fitted l (with_log (pruned r.delivery.known r.delivery.log) r) m
pruned_fits l r m n own s eo en f =
    let d = r.delivery in
    let P : List (Put Body) → Type 0 = λ ps. Fitted l (with_log ps r) m in
    let e : n ≡ own_count r - least (own_count r) d.me d.known = en ∙ ap (λ k. k - least k d.me d.known) eo in
    subst P (ap (λ k. take k d.log) e ∙ sym (pruned_is d.known d.log d.me (own_count r) s.down)) f

-- WHAT IS TOLD is joined to what is known
pub joined_clock : (l : Limits) (x y : CodeClock) (a b : Clock) → l.replicas ≤ clock_size → length a ≡ l.replicas → length b ≡ l.replicas → y.counts ≡ join x.counts (pad clock_size b) → x ≡ code_clock a → y ≡ code_clock (join a b)
joined_clock l x y a b h ea eb ey ex =
    let e : y.counts ≡ pad clock_size (join a b) = ey ∙ ap (λ (z : CodeClock). join z.counts (pad clock_size b)) ex ∙ join_pad clock_size a b (omega arith) (omega arith) in
    λ i. record { counts = e i }

pub join_small : (a b : Clock) → Small a → Small b → Small (join a b)
join_small a b s t i = join_split (λ n. n < count_bound) a b i (s i) (t i)
