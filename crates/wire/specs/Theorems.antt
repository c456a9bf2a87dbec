-- The theorems about bytes. Each is a statement, and a function of src/ has it as its contract.
use Rattle.std.specs.Prelude.{◌≡◌, ℕ, suc, ◌+◌, ◌*◌, ◌<◌, ◌≤◌, Bool, true, false, List, [], ◌∷◌, ◌++◌, length, take, drop, Some, Option}
use Rattle.model.specs.Limits.{Limits, GoodLimits}
use Rattle.model.specs.Clock.{Clock}
use Rattle.model.specs.Put.{Put, Body}
use Rattle.model.specs.Replica.{Event, put, get, came, has, tell, garbled, legible, Answer, answer, replica}
use Rattle.model.specs.Program.{byte_bound, word_bound, all_below, readable_body, readable, all_readable}
use Rattle.wire.specs.Bytes.{write_number, write_counts, write_clock, write_body, write_put, write_item, write_event, write_answer}
use Rattle.wire.specs.Reading.{whole, number_in, clock_in, clock_size, read_body, read_put, read}
use Rattle.wire.specs.Answers.{more, next_put, read_answer, readable_answer}

-- each event is read back as it was written, whatever its length
abbrev pub EventReadsBack : Type 0
EventReadsBack = (e : Event) → readable e ≡ true → read (write_event e) ≡ e

-- EACH PART is read back, and what follows it is known: a number, a clock, a put among others. A body and a put go on to the end of their bytes
pub record PartsReadBack : Type 0 where
  pub number : (n : ℕ) (s : List ℕ) → n < word_bound → (number_in (write_number n ++ s) ≡ n) × (drop 8 (write_number n ++ s) ≡ s)
  pub clock :
      (c : Clock) (s : List ℕ) → all_below word_bound c ≡ true →
      (clock_in (write_clock c s) ≡ c) × (clock_size (write_clock c s) ≡ whole (9 * length c + 1)) × (drop (9 * length c + 1) (write_clock c s) ≡ s)
  pub body : (b : Body) → readable_body b ≡ true → read_body (write_body b) ≡ whole b
  pub put : (p : Put Body) → readable (came p) ≡ true → read_put (write_put p) ≡ whole p
  pub item :
      (p : Put Body) (s : List ℕ) → readable (came p) ≡ true → length (write_put p) < word_bound →
      next_put (write_item p ++ s) ≡ Some (more p s)

-- bytes are below 256
abbrev pub AllBytes : List ℕ → Type 0
AllBytes s = all_below byte_bound s ≡ true

-- what is read as an event is exactly its bytes, so no other bytes are that event
abbrev pub OnlyItsBytes : Type 0
OnlyItsBytes = (s : List ℕ) → AllBytes s → legible (read s) ≡ true → write_event (read s) ≡ s

-- and it is one that bytes can carry
abbrev pub ReadIsReadable : Type 0
ReadIsReadable = (s : List ℕ) → AllBytes s → length s < word_bound → readable (read s) ≡ true

-- s is the beginning of some event's bytes
pub record Begins (s : List ℕ) : Type 0 where
  pub event : Event
  pub is_event : legible event ≡ true
  pub carried : readable event ≡ true
  pub more : List ℕ
  pub bytes : write_event event ≡ s ++ more

-- WHERE BYTES CEASE TO BE AN EVENT: what comes before the place begins an event, and with the byte at the place it does not; at their end, if they are cut short
abbrev pub PlaceRight : Type 0
PlaceRight = (s : List ℕ) (n : ℕ) → AllBytes s → read s ≡ garbled n → (n ≤ length s) × Begins (take n s) × (n < length s → Begins (take (suc n) s) → ⊥)

-- EACH KIND OF END. An event whose bytes say where they end
unfoldable pub closed : Event → Bool
closed (put b) = false
closed (get k) = true
closed (came p) = false
closed (has j c) = true
closed tell = true
closed (garbled n) = false

-- a number and counts after the event's number, as in a put that came or what a replica has
abbrev pub counted_so_far : ℕ → ℕ → Clock → List ℕ → List ℕ
counted_so_far t n c s = t ∷ (write_number n ++ (write_counts c ++ s))

-- the place for each
pub record KindsOfEnd : Type 0 where
  pub no_bytes : read [] ≡ garbled 0
  pub unknown_number : (t : ℕ) (s : List ℕ) → 4 < t → read (t ∷ s) ≡ garbled 0
  pub other_form_put : (x : ℕ) (s : List ℕ) → 0 < x → read (0 ∷ (x ∷ s)) ≡ garbled 1
  pub other_form_came :
      (n : ℕ) (c : Clock) (x : ℕ) (s : List ℕ) → n < word_bound → all_below word_bound c ≡ true → 0 < x →
      read (counted_so_far 2 n c (0 ∷ (x ∷ s))) ≡ garbled (10 + 9 * length c)
  pub other_marker_came : (n : ℕ) (c : Clock) (x : ℕ) (s : List ℕ) → 1 < x → read (counted_so_far 2 n c (x ∷ s)) ≡ garbled (9 + 9 * length c)
  pub other_marker_has : (n : ℕ) (c : Clock) (x : ℕ) (s : List ℕ) → 1 < x → read (counted_so_far 3 n c (x ∷ s)) ≡ garbled (9 + 9 * length c)
  pub left_over : (e : Event) (x : ℕ) (s : List ℕ) → readable e ≡ true → closed e ≡ true → read (write_event e ++ (x ∷ s)) ≡ garbled (length (write_event e))
  pub cut_short : (s : List ℕ) → AllBytes s → Begins s → legible (read s) ≡ false → read s ≡ garbled (length s)

-- OF ONE READING: whatever event the bytes s were written from, it is x; x can be carried; if it is an event, s are its bytes; if not, the place is right
pub record ReadsRight (s : List ℕ) (x : Event) : Type 0 where
  pub back : (e : Event) → readable e ≡ true → s ≡ write_event e → x ≡ e
  pub carried : readable x ≡ true
  pub only : legible x ≡ true → write_event x ≡ s
  pub place : (n : ℕ) → x ≡ garbled n → (n ≤ length s) × Begins (take n s) × (n < length s → Begins (take (suc n) s) → ⊥)

-- ANSWERS: each is read back as it was written
abbrev pub AnswerReadsBack : Type 0
AnswerReadsBack = (a : Answer) → readable_answer a ≡ true → read_answer (write_answer a) ≡ Some a

-- and what is read as an answer is exactly its bytes
abbrev pub AnswerOnlyItsBytes : Type 0
AnswerOnlyItsBytes = (s : List ℕ) (a : Answer) → AllBytes s → read_answer s ≡ Some a → write_answer a ≡ s

-- OF ONE READING: whatever answer the bytes s were written from, it is x; and if x is an answer, s are its bytes
pub record AnswerRight (s : List ℕ) (x : Option Answer) : Type 0 where
  pub back : (a : Answer) → readable_answer a ≡ true → s ≡ write_answer a → x ≡ Some a
  pub only : (a : Answer) → x ≡ Some a → write_answer a ≡ s

-- OF A REPLICA: each answer that it gives, after any events that bytes can carry, is read back as it was written
abbrev pub ReplicaAnswersReadBack : Type 0
ReplicaAnswersReadBack =
    (can : ℕ → Bool) (l : Limits) (i : ℕ) (es : List Event) (e : Event) → GoodLimits can l → i < l.replicas → all_readable (e ∷ es) ≡ true →
    (readable_answer (answer l (replica l i es) e) ≡ true) × (read_answer (write_answer (answer l (replica l i es) e)) ≡ Some (answer l (replica l i es) e))
