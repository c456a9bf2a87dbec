-- Lent memory: a header of rows, then slots. What a read gives and what a write leaves, in any memory. Definitions only.
use Rattle.std.specs.Prelude.{ℕ, ◌+◌, ◌*◌, Bool, cond, ◌&&◌, List, ◌++◌, length, take, drop, replicate, None, Option, nat_le, nat_lt, slice_index, slice_set}
use Rattle.std.specs.List.{flat_map}
use Rattle.puts.specs.Values.{Put}
use Rattle.puts.specs.declared.words.Head.{Head}
use Rattle.puts.specs.Values.{pad}
use Rattle.puts.specs.Words.{slot_size, put_in, head_in, if_put, Slot, slot_words}

-- THE LAYOUT OF THE HEADER, here and nowhere else: a row has so many words
abbrev pub row_size : ℕ
row_size = 16

-- so many rows
abbrev pub row_count : ℕ
row_count = 32

-- so many words in all
abbrev pub header_size : ℕ
header_size = 512

-- each row is filled up with zeros
unfoldable pub header : List (List ℕ) → List ℕ
header rs = flat_map (pad row_size) rs

-- THE IMAGE of some rows and slots
abbrev pub memory : List (List ℕ) → List Slot → List ℕ
memory rs ss = header rs ++ flat_map slot_words ss

-- A SLOT in any memory: where it begins
abbrev pub slot_start : ℕ → ℕ
slot_start k = header_size + slot_size * k

-- whether it is there
abbrev pub has_slot : ℕ → List ℕ → Bool
has_slot k m = nat_le (slot_start k + slot_size) (length m)

-- its words
abbrev pub slot_at : ℕ → List ℕ → List ℕ
slot_at k m = take slot_size (drop (slot_start k) m)

-- other words in their place
unfoldable pub with_slot : ℕ → List ℕ → List ℕ → List ℕ
with_slot k ws m = cond (has_slot k m) (take (slot_start k) m ++ (ws ++ drop slot_size (drop (slot_start k) m))) m

-- what is read of it: a put
unfoldable pub put_at : ℕ → List ℕ → Option Put
put_at k m = cond (has_slot k m) (if_put (slot_at k m) (put_in (slot_at k m))) None

-- its head
unfoldable pub head_at : ℕ → List ℕ → Option Head
head_at k m = cond (has_slot k m) (if_put (slot_at k m) (head_in (slot_at k m))) None

-- the words of slot j in slot k too
unfoldable pub with_copy : ℕ → ℕ → List ℕ → List ℕ
with_copy j k m = cond (has_slot j m) (with_slot k (slot_at j m) m) m

-- A ROW of the header in any memory: whether it is there
abbrev pub has_row : ℕ → List ℕ → Bool
has_row r m = nat_lt r row_count && nat_le header_size (length m)

-- its words; zeros if it is not there
unfoldable pub row_at : ℕ → List ℕ → List ℕ
row_at r m = cond (has_row r m) (take row_size (drop (row_size * r) m)) (replicate row_size 0)

-- other words in their place
unfoldable pub with_row : ℕ → List ℕ → List ℕ → List ℕ
with_row r ws m = cond (has_row r m) (take (row_size * r) m ++ (ws ++ drop row_size (drop (row_size * r) m))) m

-- and one word of it: whether it is there
abbrev pub has_word : ℕ → ℕ → List ℕ → Bool
has_word r i m = nat_lt i row_size && has_row r m

-- the word; 0 if it is not there
unfoldable pub word_at : ℕ → ℕ → List ℕ → ℕ
word_at r i m = cond (has_word r i m) (slice_index m (row_size * r + i)) 0

-- another in its place
unfoldable pub with_word : ℕ → ℕ → ℕ → List ℕ → List ℕ
with_word r i v m = cond (has_word r i m) (slice_set m (row_size * r + i) v) m
