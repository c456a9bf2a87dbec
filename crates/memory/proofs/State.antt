-- What reads and writes in the memory of a replica mean for its state.
use Rattle.std.proofs.Common.{◌≡◌, ℕ, suc, ◌+◌, ◌-◌, ◌%◌, ◌<◌, ◌≤◌, List, [], ◌∷◌, ◌++◌, map, length, get_or, take, set, replicate, sym, ap, ◌∙◌, subst, mod-lt, arith}
use Rattle.std.proofs.lemmas.List.{append_assoc, length_push, length-map, length-set, length-take, get_or-take, set_at, set-append_left, map_push}
use Rattle.std.proofs.ByRecursion.{All-get_or}
use Rattle.model.specs.Limits.{Limits}
use Rattle.model.specs.Clock.{Clock, at}
use Rattle.model.specs.Put.{Put, Body, number}
use Rattle.model.specs.Replica.{Replica}
use Rattle.puts.specs.Values.{pad}
use Rattle.puts.specs.Words.{Slot, slot_words, code_slot, code_head, FitSlot}
use Rattle.slots.specs.Image.{row_size, row_count, memory, put_at, head_at, with_slot, row_at, with_row, word_at, with_word}
use Rattle.slots.proofs.Slots.{slot_laws}
use Rattle.slots.proofs.Rows.{row_laws}
use Rattle.memory.specs.Layout.{known_place}
use Rattle.memory.specs.Image.{sizes, known_rows, rows, one, queue, ring, slots, encode}
use Rattle.memory.specs.Valid.{Sound, SoundSlot, AllSound, Fits, Shaped}
use Rattle.memory.specs.State.{with_clock, with_log, with_waiting, with_known, own_count, Reads, Writes}
use Rattle.memory.proofs.Rings.{ring_at, ring_shorter}
use Rattle.memory.proofs.Images.{rows_length, row_known, queue_at, slots_length, key_slot, log_slot, waiting_slot, region_laws}
use Rattle.memory.proofs.Sound.{fit_of, slots_sound}

-- one more waits
queue_more : (n : ℕ) (ps : List (Put Body)) (p : Put Body) → length ps < n → set (queue n ps) (length ps) (one p) ≡ queue n (ps ++ one p)
unfolding queue
queue_more n ps p h =
    let none : Slot = [] in
    let k : ℕ = n - suc (length ps) in
    let e : n - length ps ≡ suc k = omega arith in
    let f : n - length (ps ++ one p) ≡ k = omega (arith, length_push ps p) in
    ap (λ j. set (map one ps ++ replicate j none) (length ps) (one p)) e
    ∙ set_at (map one ps) none (replicate k none) (one p) (length ps) (length-map ps one)
    ∙ sym (ap (λ j. map one (ps ++ one p) ++ replicate j none) f ∙ ap (λ t. t ++ replicate k none) (map_push one ps p) ∙ append_assoc (map one ps) (one p ∷ []) (replicate k none))

-- another log
pub fits_log : (l : Limits) (r : Replica) (ps : List (Put Body)) → Fits l r → AllSound l ps → Fits l (with_log ps r)
fits_log l r ps v f =
    let d = v.delivery in
    record {
      delivery = record {
        replicas = d.replicas;
        me = d.me;
        clock = d.clock;
        small = d.small;
        known = d.known;
        each = d.each;
        each_small = d.each_small;
        room = d.room;
        waits = d.waits;
        logs = f;
      };
      store = v.store;
    }

pub sound_take : (l : Limits) (ps : List (Put Body)) (j : ℕ) → AllSound l ps → AllSound l (take j ps)
sound_take l ps j f k d lt =
    let P : Put Body → Type 0 = Sound l in
    let n = length-take j ps in
    subst P (sym (get_or-take j ps k d (omega arith))) (f k d (omega arith))

module _ (l : Limits) (r : Replica) (v : Fits l r) where
  count : length (rows l r.delivery) ≡ row_count
  count = rows_length l r.delivery v.delivery

  -- READS
  clock_fits : length r.delivery.clock ≤ row_size
  clock_fits = omega (arith, v.delivery.clock, v.delivery.replicas)

  read_clock : row_at 1 (encode l r) ≡ pad row_size r.delivery.clock
  unfolding encode rows
  read_clock = row_laws.reads (rows l r.delivery) (slots l r) 1 count (omega arith)

  read_count : (i : ℕ) → i < row_size → word_at 1 i (encode l r) ≡ at r.delivery.clock i
  unfolding encode rows
  read_count i h = row_laws.reads_word (rows l r.delivery) (slots l r) 1 i count (omega arith) h clock_fits

  read_size : (i : ℕ) → i < row_size → word_at 0 i (encode l r) ≡ get_or (sizes l r.delivery) i 0
  unfolding encode rows
  read_size i h = row_laws.reads_word (rows l r.delivery) (slots l r) 0 i count (omega arith) h (omega arith)

  read_known : (j : ℕ) → j < l.replicas → row_at (known_place + j) (encode l r) ≡ pad row_size (get_or r.delivery.known j [])
  unfolding encode
  read_known j h =
      let e : known_place + j ≡ suc (suc j) = omega arith in
      ap (λ x. row_at x (encode l r)) e ∙ row_laws.reads (rows l r.delivery) (slots l r) (suc (suc j)) count (omega (arith, v.delivery.replicas))
      ∙ ap (pad row_size) (row_known l r.delivery j v.delivery h)

  read_known_count : (j i : ℕ) → j < l.replicas → i < row_size → word_at (known_place + j) i (encode l r) ≡ at (get_or r.delivery.known j []) i
  unfolding encode
  read_known_count j i h b =
      let e : known_place + j ≡ suc (suc j) = omega arith in
      let row = row_known l r.delivery j v.delivery h in
      ap (λ x. word_at x i (encode l r)) e
      ∙ row_laws.reads_word (rows l r.delivery) (slots l r) (suc (suc j)) i count (omega (arith, v.delivery.replicas)) b (omega (arith, ap length row, v.delivery.each j h, v.delivery.replicas))
      ∙ ap (λ c. get_or c i 0) row

  slot_fits : (k : ℕ) → k < length (slots l r) → FitSlot (get_or (slots l r) k [])
  slot_fits k h = fit_of l (get_or (slots l r) k []) (All-get_or (SoundSlot l) (slots l r) k [] h (slots_sound l r v))

  read_slot : (k : ℕ) (x : Slot) → k < l.keys + l.log_most + l.waiting_most → get_or (slots l r) k [] ≡ x → put_at k (encode l r) ≡ code_slot x
  unfolding encode
  read_slot k x h e = let lt : k < length (slots l r) = omega (arith, slots_length l r v) in slot_laws.reads (rows l r.delivery) (slots l r) k count lt (slot_fits k lt) ∙ ap code_slot e

  read_head : (k : ℕ) (x : Slot) → k < l.keys + l.log_most + l.waiting_most → get_or (slots l r) k [] ≡ x → head_at k (encode l r) ≡ code_head x
  unfolding encode
  read_head k x h e = let lt : k < length (slots l r) = omega (arith, slots_length l r v) in slot_laws.heads (rows l r.delivery) (slots l r) k count lt (slot_fits k lt) ∙ ap code_head e

  waits_in : (i : ℕ) (d : Put Body) → i < length r.delivery.waiting → get_or (slots l r) ((l.keys + l.log_most) + i) [] ≡ one (get_or r.delivery.waiting i d)
  waits_in i d h = waiting_slot l r v i (omega (arith, v.delivery.room)) ∙ queue_at l.waiting_most r.delivery.waiting i d h

  pub reads : Reads l r
  unfolding code_slot code_head
  reads =
      record {
        clock = read_clock;
        count = read_count;
        known = read_known;
        known_count = read_known_count;
        waiting_size = read_size 0 (omega arith);
        log_size = read_size 1 (omega arith);
        stands = λ k h. let z : 0 + k ≡ k = omega arith in ap (λ x. put_at x (encode l r)) z ∙ read_slot k (get_or r.store k []) (omega arith) (key_slot l r v k h);
        waits = λ i d h. read_slot ((l.keys + l.log_most) + i) (one (get_or r.delivery.waiting i d)) (omega (arith, v.delivery.room)) (waits_in i d h);
        waits_head = λ i d h. read_head ((l.keys + l.log_most) + i) (one (get_or r.delivery.waiting i d)) (omega (arith, v.delivery.room)) (waits_in i d h);
        logged = λ s i d h.
            let n : ℕ = (own_count r - i) % l.log_most in
            let lt = mod-lt (own_count r - i) s.some in
            read_slot (l.keys + n) (one (get_or r.delivery.log i d)) (omega arith) (log_slot l r v n lt ∙ ring_at l.log_most r.delivery.me (own_count r) r.delivery.log i d s.down s.some s.room h);
      }

  -- WRITES
  write_clock : (c : Clock) → with_row 1 (pad row_size c) (encode l r) ≡ encode l (with_clock c r)
  unfolding encode rows slots
  write_clock c = row_laws.writes (rows l r.delivery) (slots l r) 1 c count (omega arith)

  write_count : (i n : ℕ) → i < l.replicas → with_word 1 i n (encode l r) ≡ encode l (with_clock (set r.delivery.clock i n) r)
  unfolding encode rows slots
  write_count i n h = row_laws.writes_word (rows l r.delivery) (slots l r) 1 i n count (omega arith) (omega (arith, v.delivery.clock)) clock_fits

  set_known : (j : ℕ) (c : Clock) → j < l.replicas → set (rows l r.delivery) (suc (suc j)) c ≡ rows l (with_known (set r.delivery.known j c) r).delivery
  unfolding rows
  set_known j c h =
      let ks = r.delivery.known in
      let none : List ℕ = [] in
      ap (λ t. sizes l r.delivery ∷ r.delivery.clock ∷ t)
      (set-append_left ks (replicate (known_rows - length ks) none) j c (omega (arith, v.delivery.known)) ∙ ap (λ n. set ks j c ++ replicate (known_rows - n) none) (sym (length-set ks j c)))

  write_known : (j : ℕ) (c : Clock) → j < l.replicas → with_row (known_place + j) (pad row_size c) (encode l r) ≡ encode l (with_known (set r.delivery.known j c) r)
  unfolding encode slots
  write_known j c h =
      let e : known_place + j ≡ suc (suc j) = omega arith in
      ap (λ x. with_row x (pad row_size c) (encode l r)) e ∙ row_laws.writes (rows l r.delivery) (slots l r) (suc (suc j)) c count (omega (arith, v.delivery.replicas))
      ∙ ap (λ rs. memory rs (slots l r)) (set_known j c h)

  -- a size of the first row
  write_size : (i n : ℕ) (ss : List Slot) → i < 7 → with_word 0 i n (memory (rows l r.delivery) ss) ≡ memory (set (rows l r.delivery) 0 (set (sizes l r.delivery) i n)) ss
  unfolding rows
  write_size i n ss h = row_laws.writes_word (rows l r.delivery) ss 0 i n count (omega arith) (omega arith) (omega arith)

  write_waiting : (p : Put Body) → length r.delivery.waiting < l.waiting_most → with_word 0 0 (suc (length r.delivery.waiting)) (with_slot ((l.keys + l.log_most) + length r.delivery.waiting) (slot_words (one p)) (encode l r)) ≡ encode l (with_waiting (r.delivery.waiting ++ one p) r)
  unfolding encode rows slots
  write_waiting p h =
      let ps = r.delivery.waiting in
      let front : List Slot = r.store ++ ring l.log_most r.delivery.log in
      let n : suc (length ps) ≡ length (ps ++ one p) = omega (arith, length_push ps p) in
      ap (with_word 0 0 (suc (length ps))) (region_laws.waiting l r (length ps) (one p) v h)
      ∙ write_size 0 (suc (length ps)) (front ++ set (queue l.waiting_most ps) (length ps) (one p)) (omega arith)
      ∙ (λ i. memory (set (rows l r.delivery) 0 (set (sizes l r.delivery) 0 (n i))) (front ++ queue_more l.waiting_most ps p h i))

  write_log : (p : Put Body) → 0 < l.log_most → with_word 0 1 (suc (length r.delivery.log)) (with_slot (l.keys + number p % l.log_most) (slot_words (one p)) (encode l r)) ≡ encode l (with_log (p ∷ r.delivery.log) r)
  unfolding encode rows slots ring
  write_log p z =
      let ps = r.delivery.log in
      let n : ℕ = number p % l.log_most in
      ap (with_word 0 1 (suc (length ps))) (region_laws.log l r n (one p) v (mod-lt (number p) z))
      ∙ write_size 1 (suc (length ps)) ((r.store ++ set (ring l.log_most ps) n (one p)) ++ queue l.waiting_most r.delivery.waiting) (omega arith)

-- the oldest of the log leaves
write_shorter : (l : Limits) (r : Replica) (v : Fits l r) → Shaped l r.delivery → (j : ℕ) → j < length r.delivery.log →
    with_word 0 1 j (with_slot (l.keys + (own_count r - j) % l.log_most) (slot_words []) (encode l (with_log (take (suc j) r.delivery.log) r))) ≡ encode l (with_log (take j r.delivery.log) r)
unfolding encode rows slots
write_shorter l r v s j h =
    let ps = r.delivery.log in
    let g : Replica = with_log (take (suc j) ps) r in
    let w : Fits l g = fits_log l r (take (suc j) ps) v (sound_take l ps (suc j) v.delivery.logs) in
    let n : ℕ = (own_count r - j) % l.log_most in
    let waits : List Slot = queue l.waiting_most r.delivery.waiting in
    let e : j ≡ length (take j ps) = omega (arith, length-take j ps) in
    ap (with_word 0 1 j) (region_laws.log l g n [] w (mod-lt (own_count r - j) s.some))
    ∙ write_size l g w 1 j ((r.store ++ set (ring l.log_most (take (suc j) ps)) n []) ++ waits) (omega arith)
    ∙ (λ i. memory (set (rows l g.delivery) 0 (set (sizes l g.delivery) 1 (e i))) ((r.store ++ ring_shorter l.log_most r.delivery.me (own_count r) ps j s.down s.some s.room h i) ++ waits))

pub writes : (l : Limits) (r : Replica) → Fits l r → Writes l r
unfolding encode slots
writes l r v =
    record {
      clock = write_clock l r v;
      count = write_count l r v;
      known = write_known l r v;
      stands = λ k s h. region_laws.keys l r k s v h;
      waits = write_waiting l r v;
      logs = write_log l r v;
      unlogs = write_shorter l r v;
    }
