-- What stands where in the image of a replica.
use Rattle.std.proofs.Common.{◌≡◌, ℕ, suc, ◌+◌, ◌-◌, ◌<◌, ◌≤◌, List, [], ◌++◌, map, length, get_or, set, replicate, refl, ap, ◌∙◌, arith}
use Rattle.std.proofs.lemmas.List.{length-append, length-replicate, length-map, get_or_append_left, get_or-append_right, get_or-map, set-append_left, set-append_right}
use Rattle.model.specs.Limits.{Limits}
use Rattle.model.specs.Put.{Put, Body}
use Rattle.model.specs.Delivery.{Delivery}
use Rattle.model.specs.Replica.{Replica}
use Rattle.puts.specs.Words.{Slot, slot_words}
use Rattle.slots.specs.Image.{row_count, memory, with_slot}
use Rattle.slots.proofs.Slots.{memory_length, slot_laws}
use Rattle.memory.specs.Layout.{words}
use Rattle.memory.specs.Image.{sizes, known_rows, rows, one, queue, ring, slots, encode}
use Rattle.memory.specs.Valid.{FitsDelivery, Fits}
use Rattle.memory.specs.Laws.{RegionLaws}
use Rattle.memory.proofs.Rings.{ring_length}

-- THE ROWS
pub rows_length : (l : Limits) (d : Delivery Body) → FitsDelivery l d → length (rows l d) ≡ row_count
unfolding rows
rows_length l d v =
    let none : List ℕ = [] in
    let a = length-append d.known (replicate (known_rows - length d.known) none) in
    let b = length-replicate (known_rows - length d.known) none in
    omega (arith, v.known, v.replicas)

pub row_sizes : (l : Limits) (d : Delivery Body) → get_or (rows l d) 0 [] ≡ sizes l d
unfolding rows
row_sizes l d = refl

pub row_clock : (l : Limits) (d : Delivery Body) → get_or (rows l d) 1 [] ≡ d.clock
unfolding rows
row_clock l d = refl

pub row_known : (l : Limits) (d : Delivery Body) (i : ℕ) → FitsDelivery l d → i < l.replicas → get_or (rows l d) (suc (suc i)) [] ≡ get_or d.known i []
unfolding rows
row_known l d i v lt = get_or_append_left d.known (replicate (known_rows - length d.known) []) [] i (omega (arith, v.known))

-- THE SLOTS
pub queue_length : (n : ℕ) (ps : List (Put Body)) → length ps ≤ n → length (queue n ps) ≡ n
unfolding queue
queue_length n ps h =
    let none : Slot = [] in
    let m = length-map ps one in
    let r = length-replicate (n - length ps) none in
    length-append (map one ps) (replicate (n - length ps) none) ∙ omega arith

pub queue_at : (n : ℕ) (ps : List (Put Body)) (i : ℕ) (x : Put Body) → i < length ps → get_or (queue n ps) i [] ≡ one (get_or ps i x)
unfolding queue
queue_at n ps i x lt = get_or_append_left (map one ps) (replicate (n - length ps) []) [] i (omega (arith, length-map ps one)) ∙ get_or-map one ps i x [] lt

module _ (l : Limits) (r : Replica) (v : Fits l r) where
  front_length : length (r.store ++ ring l.log_most r.delivery.log) ≡ l.keys + l.log_most
  front_length = length-append r.store (ring l.log_most r.delivery.log) ∙ omega (arith, v.store.keys, ring_length l.log_most r.delivery.log)

  pub slots_length : length (slots l r) ≡ l.keys + l.log_most + l.waiting_most
  unfolding slots
  slots_length =
      length-append (r.store ++ ring l.log_most r.delivery.log) (queue l.waiting_most r.delivery.waiting)
      ∙ omega (arith, front_length, queue_length l.waiting_most r.delivery.waiting v.delivery.room)

  pub encode_length : length (encode l r) ≡ words l
  unfolding encode
  encode_length = memory_length (rows l r.delivery) (slots l r) (rows_length l r.delivery v.delivery) ∙ omega (arith, slots_length)

  -- what stands in a slot of a region
  pub key_slot : (i : ℕ) → i < l.keys → get_or (slots l r) i [] ≡ get_or r.store i []
  unfolding slots
  key_slot i h =
      get_or_append_left (r.store ++ ring l.log_most r.delivery.log) (queue l.waiting_most r.delivery.waiting) [] i (omega (arith, front_length))
      ∙ get_or_append_left r.store (ring l.log_most r.delivery.log) [] i (omega (arith, v.store.keys))

  pub log_slot : (i : ℕ) → i < l.log_most → get_or (slots l r) (l.keys + i) [] ≡ get_or (ring l.log_most r.delivery.log) i []
  unfolding slots
  log_slot i h =
      let e : (l.keys + i) - l.keys ≡ i = omega arith in
      get_or_append_left (r.store ++ ring l.log_most r.delivery.log) (queue l.waiting_most r.delivery.waiting) [] (l.keys + i) (omega (arith, front_length))
      ∙ get_or-append_right r.store (ring l.log_most r.delivery.log) l.keys (l.keys + i) [] v.store.keys (omega arith)
      ∙ ap (λ k. get_or (ring l.log_most r.delivery.log) k []) e

  pub waiting_slot : (i : ℕ) → i < l.waiting_most → get_or (slots l r) ((l.keys + l.log_most) + i) [] ≡ get_or (queue l.waiting_most r.delivery.waiting) i []
  unfolding slots
  waiting_slot i h =
      let e : ((l.keys + l.log_most) + i) - (l.keys + l.log_most) ≡ i = omega arith in
      get_or-append_right (r.store ++ ring l.log_most r.delivery.log) (queue l.waiting_most r.delivery.waiting) (l.keys + l.log_most) ((l.keys + l.log_most) + i) [] front_length (omega arith)
      ∙ ap (λ k. get_or (queue l.waiting_most r.delivery.waiting) k []) e

  -- and what a write to it changes
  pub set_key : (i : ℕ) (x : Slot) → i < l.keys → set (slots l r) i x ≡ (set r.store i x ++ ring l.log_most r.delivery.log) ++ queue l.waiting_most r.delivery.waiting
  unfolding slots
  set_key i x h =
      set-append_left (r.store ++ ring l.log_most r.delivery.log) (queue l.waiting_most r.delivery.waiting) i x (omega (arith, front_length))
      ∙ ap (λ t. t ++ queue l.waiting_most r.delivery.waiting) (set-append_left r.store (ring l.log_most r.delivery.log) i x (omega (arith, v.store.keys)))

  pub set_log : (i : ℕ) (x : Slot) → i < l.log_most → set (slots l r) (l.keys + i) x ≡ (r.store ++ set (ring l.log_most r.delivery.log) i x) ++ queue l.waiting_most r.delivery.waiting
  unfolding slots
  set_log i x h =
      let e : (l.keys + i) - l.keys ≡ i = omega arith in
      set-append_left (r.store ++ ring l.log_most r.delivery.log) (queue l.waiting_most r.delivery.waiting) (l.keys + i) x (omega (arith, front_length))
      ∙ ap (λ t. t ++ queue l.waiting_most r.delivery.waiting)
      (set-append_right r.store (ring l.log_most r.delivery.log) l.keys (l.keys + i) x v.store.keys (omega arith)
      ∙ ap (λ k. r.store ++ set (ring l.log_most r.delivery.log) k x) e)

  pub set_waiting : (i : ℕ) (x : Slot) → i < l.waiting_most → set (slots l r) ((l.keys + l.log_most) + i) x ≡ (r.store ++ ring l.log_most r.delivery.log) ++ set (queue l.waiting_most r.delivery.waiting) i x
  unfolding slots
  set_waiting i x h =
      let e : ((l.keys + l.log_most) + i) - (l.keys + l.log_most) ≡ i = omega arith in
      set-append_right (r.store ++ ring l.log_most r.delivery.log) (queue l.waiting_most r.delivery.waiting) (l.keys + l.log_most) ((l.keys + l.log_most) + i) x front_length (omega arith)
      ∙ ap (λ k. (r.store ++ ring l.log_most r.delivery.log) ++ set (queue l.waiting_most r.delivery.waiting) k x) e

  pub write_is : (k : ℕ) (x : Slot) → k < l.keys + l.log_most + l.waiting_most → with_slot k (slot_words x) (encode l r) ≡ memory (rows l r.delivery) (set (slots l r) k x)
  unfolding encode
  write_is k x h = slot_laws.writes (rows l r.delivery) (slots l r) k x (rows_length l r.delivery v.delivery) (omega (arith, slots_length))

pub region_laws : RegionLaws
region_laws =
    record {
      keys = λ l r i x v h. let z : 0 + i ≡ i = omega arith in ap (λ k. with_slot k (slot_words x) (encode l r)) z ∙ write_is l r v i x (omega arith) ∙ ap (memory (rows l r.delivery)) (set_key l r v i x h);
      log = λ l r i x v h. write_is l r v (l.keys + i) x (omega arith) ∙ ap (memory (rows l r.delivery)) (set_log l r v i x h);
      waiting = λ l r i x v h. write_is l r v ((l.keys + l.log_most) + i) x (omega arith) ∙ ap (memory (rows l r.delivery)) (set_waiting l r v i x h);
    }
