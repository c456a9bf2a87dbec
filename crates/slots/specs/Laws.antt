-- In the image of some rows and slots, a read gives what stands there, and a write changes that and nothing else.
use Rattle.std.specs.Prelude.{◌≡◌, ℕ, ◌<◌, ◌≤◌, List, [], length, slice_index, slice_index_or, slice_set}
use Rattle.puts.specs.Values.{pad}
use Rattle.puts.specs.Words.{Slot, slot_words, code_slot, code_head, FitSlot}
use Rattle.slots.specs.Image.{row_size, row_count, memory, put_at, head_at, with_slot, with_copy, row_at, with_row, word_at, with_word}

pub record SlotLaws : Type 0 where
  pub reads : (rs : List (List ℕ)) (ss : List Slot) (k : ℕ) → length rs ≡ row_count → k < length ss → FitSlot (slice_index_or ss k []) → put_at k (memory rs ss) ≡ code_slot (slice_index_or ss k [])
  pub heads : (rs : List (List ℕ)) (ss : List Slot) (k : ℕ) → length rs ≡ row_count → k < length ss → FitSlot (slice_index_or ss k []) → head_at k (memory rs ss) ≡ code_head (slice_index_or ss k [])
  pub writes : (rs : List (List ℕ)) (ss : List Slot) (k : ℕ) (s : Slot) → length rs ≡ row_count → k < length ss → with_slot k (slot_words s) (memory rs ss) ≡ memory rs (slice_set ss k s)
  pub copies : (rs : List (List ℕ)) (ss : List Slot) (j k : ℕ) → length rs ≡ row_count → j < length ss → k < length ss → with_copy j k (memory rs ss) ≡ memory rs (slice_set ss k (slice_index_or ss j []))

pub record RowLaws : Type 0 where
  pub reads : (rs : List (List ℕ)) (ss : List Slot) (r : ℕ) → length rs ≡ row_count → r < row_count → row_at r (memory rs ss) ≡ pad row_size (slice_index_or rs r [])
  pub writes : (rs : List (List ℕ)) (ss : List Slot) (r : ℕ) (x : List ℕ) → length rs ≡ row_count → r < row_count → with_row r (pad row_size x) (memory rs ss) ≡ memory (slice_set rs r x) ss
  pub reads_word : (rs : List (List ℕ)) (ss : List Slot) (r i : ℕ) → length rs ≡ row_count → r < row_count → i < row_size → length (slice_index_or rs r []) ≤ row_size → word_at r i (memory rs ss) ≡ slice_index (slice_index_or rs r []) i
  pub writes_word : (rs : List (List ℕ)) (ss : List Slot) (r i v : ℕ) → length rs ≡ row_count → r < row_count → i < length (slice_index_or rs r []) → length (slice_index_or rs r []) ≤ row_size → with_word r i v (memory rs ss) ≡ memory (slice_set rs r (slice_set (slice_index_or rs r []) i v)) ss
