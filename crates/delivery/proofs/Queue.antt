-- What waits is gone through in place: what is had goes, the rest moves to the front, and the slots behind are emptied.
use Rattle.std.proofs.Common.{◌≡◌, ℕ, ◌+◌, ◌-◌, ◌<◌, ◌≤◌, Bool, true, false, cond, not, List, [], ◌∷◌, ◌++◌, map, length, get_or, take, drop, set, replicate, filter, sym, refl, ap, ◌∙◌, arith}
use Rattle.std.proofs.lemmas.List.{append_assoc, append-nil, length-append, length-map, length-set, length-take-le, get_or-append_right, get_or_default, get_or-drop, set-append_right, take_at, take-append-drop, take_more_set, drop_at, drop-set-lt, replicate_more, replicate-append-replicate}
use Rattle.std.proofs.lemmas.List.Filters.{FiltersInPlace-more_no, FiltersInPlace-more_set}
use Rattle.model.specs.Limits.{Limits}
use Rattle.model.specs.Clock.{Clock}
use Rattle.model.specs.Put.{Put, Body, had}
use Rattle.model.specs.Delivery.{lacking}
use Rattle.model.specs.Replica.{Replica}
use Rattle.puts.specs.declared.Clock.{Clock as CodeClock}
use Rattle.puts.specs.Values.{clock_size, code_clock, Fit}
use Rattle.puts.specs.Words.{Slot, slot_words}
use Rattle.slots.specs.Image.{row_count, memory, with_slot, with_word}
use Rattle.slots.proofs.Slots.{slot_laws}
use Rattle.slots.proofs.Rows.{row_laws}
use Rattle.memory.specs.Image.{known_rows, rows, one, queue, ring, slots, encode}
use Rattle.memory.specs.Valid.{Sound, Fits}
use Rattle.memory.specs.State.{with_waiting}
use Rattle.memory.proofs.Images.{rows_length, queue_length, queue_at}
use Rattle.memory.proofs.Rings.{ring_length}
use Rattle.memory.proofs.Sound.{no_put}
use Rattle.logs.specs.State.{Fitted}
use Rattle.logs.proofs.Logs.{kept_at}
use Rattle.delivery.specs.Steps.{keeps, front, Moved, Emptied}
use Rattle.delivery.proofs.Takes.{fits_waiting}

same_at : {A : Type 0} (i : ℕ) (xs ys : List A) (d : A) → drop i xs ≡ drop i ys → get_or xs i d ≡ get_or ys i d
same_at i xs ys d e =
    let z : i + 0 ≡ i = omega arith in
    sym (get_or-drop i xs 0 d ∙ ap (λ k. get_or xs k d) z) ∙ ap (λ t. get_or t 0 d) e ∙ get_or-drop i ys 0 d ∙ ap (λ k. get_or ys k d) z

keeps_kept : (c : Clock) (ps : List (Put Body)) → filter (keeps c) (map one ps) ≡ map one (lacking c ps)
unfolding keeps
keeps_kept c [] = refl
keeps_kept c (p ∷ ps) = ap (λ t. cond (not (had c p)) (one p ∷ t) t) (keeps_kept c ps) ∙ by (not (had c p))
  where
    by : (b : Bool) → cond b (one p ∷ map one (lacking c ps)) (map one (lacking c ps)) ≡ map one (cond b (p ∷ lacking c ps) (lacking c ps))
    by true = refl
    by false = refl

keeps_one : (c : Clock) (p : Put Body) (b : Bool) → had c p ≡ b → keeps c (one p) ≡ not b
unfolding keeps
keeps_one c p b e = ap not e

module _ (l : Limits) (r : Replica) (f : Fits l r) where
  abbrev its_rows : List (List ℕ)
  its_rows = rows l r.delivery

  abbrev waits : List (Put Body)
  waits = r.delivery.waiting

  abbrev stays : List (Put Body)
  stays = lacking r.delivery.clock r.delivery.waiting

  pub long : length its_rows ≡ row_count
  long = rows_length l r.delivery f.delivery

  front_length : length (front l r) ≡ l.keys + l.log_most
  unfolding front
  front_length = length-append r.store (ring l.log_most r.delivery.log) ∙ omega (arith, f.store.keys, ring_length l.log_most r.delivery.log)

  pub all_length : (ss : List Slot) → length ss ≡ l.waiting_most → length (front l r ++ ss) ≡ (l.keys + l.log_most) + l.waiting_most
  all_length ss h = length-append (front l r) ss ∙ omega (arith, front_length)

  -- a slot of the queue is written
  wrote : (ss : List Slot) (k j : ℕ) (s : Slot) → k ≡ (l.keys + l.log_most) + j → set (front l r ++ ss) k s ≡ front l r ++ set ss j s
  wrote ss k j s e =
      let z : k - length (front l r) ≡ j = omega (arith, front_length) in
      set-append_right (front l r) ss (length (front l r)) k s refl (omega (arith, front_length)) ∙ ap (λ x. front l r ++ set ss x s) z

  pub moved_none : (m : List ℕ) → m ≡ encode l r → Moved l r m 0 0
  unfolding encode slots front
  moved_none m e =
      let q : List Slot = queue l.waiting_most waits in
      record { slots = q; mem = e; keeping = record { front = refl; rest = refl; behind = omega arith; within = omega arith; long = refl } }

  pub size : (m : List ℕ) (i n : ℕ) (g : Moved l r m i n) → length g.slots ≡ l.waiting_most
  size m i n g = g.keeping.long ∙ queue_length l.waiting_most waits f.delivery.room

  here : (m : List ℕ) (i n : ℕ) → i < length waits → (g : Moved l r m i n) → get_or g.slots i [] ≡ one (get_or waits i no_put)
  here m i n h g = same_at i g.slots (queue l.waiting_most waits) [] g.keeping.rest ∙ queue_at l.waiting_most waits i no_put h

  pub moved_at : (m : List ℕ) (k i n : ℕ) → k ≡ (l.keys + l.log_most) + i → i < length waits → (g : Moved l r m i n) → get_or (front l r ++ g.slots) k [] ≡ one (get_or waits i no_put)
  moved_at m k i n e h g =
      let z : k - length (front l r) ≡ i = omega (arith, front_length) in
      get_or-append_right (front l r) g.slots (length (front l r)) k [] refl (omega (arith, front_length)) ∙ ap (λ x. get_or g.slots x []) z ∙ here m i n h g

  -- what is read there: whether the put is had
  pub read_here : (m : List ℕ) (x : CodeClock) (k i n : ℕ) (b : Bool) → k ≡ (l.keys + l.log_most) + i → i < length waits → (g : Moved l r m i n) →
      ((rs : List (List ℕ)) (ss : List Slot) (q : Put Body) (c : Clock) → length rs ≡ row_count → k < length ss → get_or ss k [] ≡ q ∷ [] → Fit q → length c ≤ clock_size → x ≡ code_clock c → m ≡ memory rs ss → b ≡ had c q) →
      x ≡ code_clock r.delivery.clock → b ≡ had r.delivery.clock (get_or waits i no_put)
  read_here m x k i n b e h g read ex =
      let v = f.delivery in
      read its_rows (front l r ++ g.slots) (get_or waits i no_put) r.delivery.clock long (omega (arith, all_length g.slots (size m i n g), v.room)) (moved_at m k i n e h g) (v.waits i no_put h).fit
      (omega (arith, v.clock, v.replicas)) ex g.mem

  same : (m : List ℕ) (i n : ℕ) → i < length waits → (g : Moved l r m i n) → one (get_or waits i no_put) ≡ get_or g.slots i (one (get_or waits i no_put))
  same m i n h g = sym (here m i n h g) ∙ get_or_default g.slots i [] (one (get_or waits i no_put)) (omega (arith, size m i n g, f.delivery.room))

  pub moved_goes : (m : List ℕ) (i n : ℕ) → i < length waits → had r.delivery.clock (get_or waits i no_put) ≡ true → Moved l r m i n → Moved l r m (i + 1) n
  moved_goes m i n h e g =
      record { slots = g.slots; mem = g.mem; keeping = FiltersInPlace-more_no g.keeping (omega (arith, size m i n g, f.delivery.room)) (keeps_one r.delivery.clock (get_or waits i no_put) true e) (same m i n h g) }

  pub moved_stays : (m m' : List ℕ) (k i n : ℕ) → k ≡ (l.keys + l.log_most) + n → i < length waits → had r.delivery.clock (get_or waits i no_put) ≡ false → (g : Moved l r m i n) →
      m' ≡ memory its_rows (set (front l r ++ g.slots) k (one (get_or waits i no_put))) → Moved l r m' (i + 1) (n + 1)
  moved_stays m m' k i n ek h e g em =
      record {
        slots = set g.slots n (one (get_or waits i no_put));
        mem = em ∙ ap (memory its_rows) (wrote g.slots k n (one (get_or waits i no_put)) ek);
        keeping = FiltersInPlace-more_set g.keeping (omega (arith, size m i n g, f.delivery.room)) (keeps_one r.delivery.clock (get_or waits i no_put) false e) (same m i n h g);
      }

  -- all are gone through
  stay_slots : (m : List ℕ) (i n : ℕ) → i ≡ length waits → (g : Moved l r m i n) → take n g.slots ≡ map one stays
  unfolding queue
  stay_slots m i n e g =
      g.keeping.front ∙ ap (filter (keeps r.delivery.clock)) (take_at (map one waits) (replicate (l.waiting_most - length waits) []) i (length-map waits one ∙ sym e)) ∙ keeps_kept r.delivery.clock waits

  pub emptied_none : (m : List ℕ) (i n : ℕ) → i ≡ length waits → Moved l r m i n → Emptied l r m n n
  unfolding queue
  emptied_none m i n e g =
      let none : Slot = [] in
      let z : 0 ≡ n - n = omega arith in
      let t = stay_slots m i n e g in
      let k = length-take-le n g.slots (omega (arith, size m i n g, f.delivery.room, g.keeping.behind)) in
      record {
        slots = g.slots;
        mem = g.mem;
        size = size m i n g;
        count = sym k ∙ ap length t ∙ length-map stays one;
        before = t ∙ sym (append-nil (map one stays)) ∙ ap (λ x. map one stays ++ replicate x none) z;
        back = ap (λ x. drop x g.slots) (sym e) ∙ g.keeping.rest ∙ drop_at (map one waits) (replicate (l.waiting_most - length waits) none) i (length-map waits one ∙ sym e);
      }

  pub emptied_more : (m m' ws : List ℕ) (k j n : ℕ) → k ≡ (l.keys + l.log_most) + j → n ≤ j → j < length waits → ws ≡ slot_words [] → m' ≡ with_slot k ws m → Emptied l r m j n → Emptied l r m' (j + 1) n
  emptied_more m m' ws k j n ek le h ew em g =
      let none : Slot = [] in
      let z : (j - n) + 1 ≡ (j + 1) - n = omega arith in
      let lj : j < length g.slots = omega (arith, f.delivery.room, g.size) in
      record {
        slots = set g.slots j none;
        mem =
            em ∙ (λ i. with_slot k (ew i) (g.mem i)) ∙ slot_laws.writes its_rows (front l r ++ g.slots) k none long (omega (arith, all_length g.slots g.size, g.size))
            ∙ ap (memory its_rows) (wrote g.slots k j none ek);
        size = length-set g.slots j none ∙ g.size;
        count = g.count;
        before =
            take_more_set g.slots j none lj ∙ ap (λ t. t ++ (none ∷ [])) g.before ∙ append_assoc (map one stays) (replicate (j - n) none) (none ∷ [])
            ∙ ap (λ t. map one stays ++ t) (replicate_more (j - n) none ∙ ap (λ x. replicate x none) z);
        back = drop-set-lt (length waits) g.slots j none h ∙ g.back;
      }

  set_size : (ws : List (Put Body)) (n : ℕ) → n ≡ length ws → set its_rows 0 (set (get_or its_rows 0 []) 0 n) ≡ rows l (with_waiting ws r).delivery
  unfolding rows
  set_size ws n e = let d = r.delivery in ap (λ k. (k ∷ length d.log ∷ d.me ∷ l.replicas ∷ l.keys ∷ l.log_most ∷ l.waiting_most ∷ []) ∷ d.clock ∷ (d.known ++ replicate (known_rows - length d.known) [])) e

  write_size : (ss : List Slot) (n : ℕ) → with_word 0 0 n (memory its_rows ss) ≡ memory (set its_rows 0 (set (get_or its_rows 0 []) 0 n)) ss
  unfolding rows
  write_size ss n = row_laws.writes_word its_rows ss 0 0 n long (omega arith) (omega arith) (omega arith)

  pub emptied_all : (m m' : List ℕ) (j n : ℕ) → j ≡ length waits → n ≤ j → Emptied l r m j n → m' ≡ with_word 0 0 n m → Fitted l (with_waiting stays r) m'
  unfolding encode slots queue front
  emptied_all m m' j n e le g em =
      let none : Slot = [] in
      let most : ℕ = l.waiting_most in
      let d : drop j g.slots ≡ replicate (most - j) none = ap (λ k. drop k g.slots) e ∙ g.back ∙ ap (λ k. replicate (most - k) none) (sym e) in
      let k : (j - n) + (most - j) ≡ most - length stays = omega (arith, g.count, f.delivery.room) in
      let s : g.slots ≡ map one stays ++ replicate (most - length stays) none =
      sym (take-append-drop j g.slots) ∙ ap (λ t. t ++ drop j g.slots) g.before ∙ ap (λ t. (map one stays ++ replicate (j - n) none) ++ t) d
      ∙ append_assoc (map one stays) (replicate (j - n) none) (replicate (most - j) none)
      ∙ ap (λ t. map one stays ++ t) (replicate-append-replicate (j - n) (most - j) none ∙ ap (λ x. replicate x none) k) in
      record {
        fits = fits_waiting l r stays f (omega (arith, g.count, f.delivery.room)) (kept_at (Sound l) (λ p. not (had r.delivery.clock p)) waits no_put f.delivery.waits);
        mem = em ∙ ap (with_word 0 0 n) g.mem ∙ write_size (front l r ++ g.slots) n ∙ (λ i. memory (set_size stays n g.count i) (front l r ++ s i));
      }
