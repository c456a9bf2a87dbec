-- One setter for each part of the state, and what reading and writing the memory of a replica means for its state.
use Rattle.std.specs.Prelude.{◌≡◌, ℕ, suc, ◌+◌, ◌-◌, ◌%◌, ◌<◌, List, [], ◌∷◌, ◌++◌, length, take, Some, slice_index_or, slice_set}
use Rattle.model.specs.Limits.{Limits}
use Rattle.model.specs.Clock.{Clock, at}
use Rattle.model.specs.Put.{Put, Body, number}
use Rattle.model.specs.Store.{Store, shown}
use Rattle.model.specs.Replica.{Replica}
use Rattle.puts.specs.Values.{pad, code_put}
use Rattle.puts.specs.Words.{Slot, slot_words, code_slot}
use Rattle.slots.specs.Image.{row_size, put_at, head_at, with_slot, row_at, with_row, word_at, with_word}
use Rattle.memory.specs.Layout.{code_limits, layout_of, clock_place, known_place, waiting_size_place, log_size_place}
use Rattle.memory.specs.Image.{one, encode}
use Rattle.memory.specs.Valid.{Fits, Shaped}

-- another clock
abbrev pub with_clock : Clock → Replica → Replica
with_clock c r = record { delivery = record { me = r.delivery.me; clock = c; log = r.delivery.log; waiting = r.delivery.waiting; known = r.delivery.known }; store = r.store }

-- another log
abbrev pub with_log : List (Put Body) → Replica → Replica
with_log ps r = record { delivery = record { me = r.delivery.me; clock = r.delivery.clock; log = ps; waiting = r.delivery.waiting; known = r.delivery.known }; store = r.store }

-- another queue
abbrev pub with_waiting : List (Put Body) → Replica → Replica
with_waiting ps r = record { delivery = record { me = r.delivery.me; clock = r.delivery.clock; log = r.delivery.log; waiting = ps; known = r.delivery.known }; store = r.store }

-- other rows of what is known
abbrev pub with_known : List Clock → Replica → Replica
with_known cs r = record { delivery = record { me = r.delivery.me; clock = r.delivery.clock; log = r.delivery.log; waiting = r.delivery.waiting; known = cs }; store = r.store }

-- another store
abbrev pub with_store : Store → Replica → Replica
with_store s r = record { delivery = r.delivery; store = s }

-- its own count
abbrev pub own_count : Replica → ℕ
own_count r = at r.delivery.clock r.delivery.me

-- WHAT IS READ IN THE MEMORY OF A REPLICA
pub record Reads (l : Limits) (r : Replica) : Type 0 where
  pub clock : row_at clock_place (encode l r) ≡ pad row_size r.delivery.clock
  pub count : (i : ℕ) → i < row_size → word_at clock_place i (encode l r) ≡ at r.delivery.clock i
  pub known : (j : ℕ) → j < l.replicas → row_at (known_place + j) (encode l r) ≡ pad row_size (slice_index_or r.delivery.known j [])
  pub known_count : (j i : ℕ) → j < l.replicas → i < row_size → word_at (known_place + j) i (encode l r) ≡ at (slice_index_or r.delivery.known j []) i
  pub waiting_size : word_at 0 waiting_size_place (encode l r) ≡ length r.delivery.waiting
  pub log_size : word_at 0 log_size_place (encode l r) ≡ length r.delivery.log
  pub stands : (k : ℕ) → k < l.keys → put_at ((layout_of (code_limits l)).keys.base + k) (encode l r) ≡ code_slot (shown r.store k)
  pub waits : (i : ℕ) (d : Put Body) → i < length r.delivery.waiting → put_at ((layout_of (code_limits l)).waiting.base + i) (encode l r) ≡ Some (code_put (slice_index_or r.delivery.waiting i d))
  pub waits_head : (i : ℕ) (d : Put Body) → i < length r.delivery.waiting →
      head_at ((layout_of (code_limits l)).waiting.base + i) (encode l r) ≡ Some (record { from = (slice_index_or r.delivery.waiting i d).from; number = number (slice_index_or r.delivery.waiting i d) })
  pub logged : Shaped l r.delivery → (i : ℕ) (d : Put Body) → i < length r.delivery.log →
      put_at ((layout_of (code_limits l)).log.base + (own_count r - i) % l.log_most) (encode l r) ≡ Some (code_put (slice_index_or r.delivery.log i d))

-- WHAT IS WRITTEN THERE
pub record Writes (l : Limits) (r : Replica) : Type 0 where
  pub clock : (c : Clock) → with_row clock_place (pad row_size c) (encode l r) ≡ encode l (with_clock c r)
  pub count : (i n : ℕ) → i < l.replicas → with_word clock_place i n (encode l r) ≡ encode l (with_clock (slice_set r.delivery.clock i n) r)
  pub known : (j : ℕ) (c : Clock) → j < l.replicas → with_row (known_place + j) (pad row_size c) (encode l r) ≡ encode l (with_known (slice_set r.delivery.known j c) r)
  pub stands : (k : ℕ) (s : Slot) → k < l.keys → with_slot ((layout_of (code_limits l)).keys.base + k) (slot_words s) (encode l r) ≡ encode l (with_store (slice_set r.store k s) r)
  pub waits : (p : Put Body) → length r.delivery.waiting < l.waiting_most →
      with_word 0 waiting_size_place (suc (length r.delivery.waiting)) (with_slot ((layout_of (code_limits l)).waiting.base + length r.delivery.waiting) (slot_words (one p)) (encode l r))
      ≡ encode l (with_waiting (r.delivery.waiting ++ one p) r)
  pub logs : (p : Put Body) → 0 < l.log_most →
      with_word 0 log_size_place (suc (length r.delivery.log)) (with_slot ((layout_of (code_limits l)).log.base + number p % l.log_most) (slot_words (one p)) (encode l r)) ≡ encode l (with_log (p ∷ r.delivery.log) r)
  pub unlogs : Shaped l r.delivery → (j : ℕ) → j < length r.delivery.log →
      with_word 0 log_size_place j (with_slot ((layout_of (code_limits l)).log.base + (own_count r - j) % l.log_most) (slot_words []) (encode l (with_log (take (suc j) r.delivery.log) r)))
      ≡ encode l (with_log (take j r.delivery.log) r)

-- in any state that fits
abbrev pub StateRead : Type 0
StateRead = (l : Limits) (r : Replica) → Fits l r → Reads l r

-- and so
abbrev pub StateWritten : Type 0
StateWritten = (l : Limits) (r : Replica) → Fits l r → Writes l r
