-- Rows of the header in any memory, and in an image.
use Rattle.std.proofs.Common.{◌≡◌, ℕ, ◌+◌, ◌*◌, ◌<◌, ◌≤◌, true, false, ltb, leb, List, [], ◌++◌, length, get_or, take, drop, set, replicate, sym, refl, ap, ◌∙◌, inl, inr, arith}
use borrow.Rule.Slice.PartMut.{put_mid}
use Rattle.std.specs.List.{flat_map}
use Rattle.std.proofs.lemmas.List.{length-append, length-take, get_or-take, get_or-drop, get_or_past, get_or_append_left, set-append_left}
use Rattle.std.proofs.lemmas.Bool.{cases_lt, cond-true, cond-false, le-leb, lt-leb, lt-ltb, le-ltb, and_from, and_left, and_right}
use Rattle.puts.specs.Values.{pad}
use Rattle.puts.specs.Words.{Slot, slot_words}
use Rattle.puts.proofs.Blocks.{joined_read, joined_write, joined_at, joined_set, read_left, write_left}
use Rattle.puts.proofs.Padded.{pad_length, get_or_pad, pad_set}
use Rattle.slots.specs.Image.{row_size, row_count, header_size, header, memory, has_row, row_at, with_row, has_word, word_at, with_word}
use Rattle.slots.specs.Laws.{RowLaws}
use Rattle.slots.proofs.Slots.{header_length, memory_length}

-- IN ANY MEMORY: a row that is there, and one that is not
module _ (m : List ℕ) (r : ℕ) where
  row_there : r < row_count → header_size ≤ length m → has_row r m ≡ true
  row_there h g = and_from (ltb r row_count) (leb header_size (length m)) (lt-ltb r row_count h) (le-leb header_size (length m) g)

  pub row_missing : (r < row_count → header_size ≤ length m → ⊥) → has_row r m ≡ false
  row_missing f =
      elim (cases_lt r row_count) [
        | inl h ↦ and_right (ltb r row_count) (leb header_size (length m)) (elim (cases_lt (length m) header_size) [ inl g ↦ lt-leb header_size (length m) g | inr g ↦ absurd (f h g) ])
        | inr h ↦ and_left (ltb r row_count) (leb header_size (length m)) (le-ltb r row_count h)
      ]

  reads_row : (x : List ℕ) (n : ℕ) → r < row_count → header_size ≤ length m → n ≡ row_size → x ≡ take n (drop (row_size * r) m) → x ≡ row_at r m
  unfolding row_at
  reads_row x n h g en ex = ex ∙ ap (λ k. take k (drop (row_size * r) m)) en ∙ sym (cond-true (has_row r m) (take row_size (drop (row_size * r) m)) (replicate row_size 0) (row_there h g))

  pub writes_row : (ws ys : List ℕ) (n : ℕ) → r < row_count → header_size ≤ length m → n ≡ row_size → ys ≡ ws → put_mid (row_size * r) n m ys ≡ with_row r ws m
  unfolding with_row
  writes_row ws ys n h g en ey = (λ i. put_mid (row_size * r) (en i) m (ey i)) ∙ sym (cond-true (has_row r m) (put_mid (row_size * r) row_size m ws) m (row_there h g))

  pub no_write : (ws : List ℕ) → has_row r m ≡ false → m ≡ with_row r ws m
  unfolding with_row
  no_write ws h = sym (cond-false (has_row r m) (put_mid (row_size * r) row_size m ws) m h)

module _ (m : List ℕ) (r i : ℕ) where
  word_there : i < row_size → r < row_count → header_size ≤ length m → has_word r i m ≡ true
  word_there b h g = and_from (ltb i row_size) (has_row r m) (lt-ltb i row_size b) (row_there m r h g)

  pub word_missing : (i < row_size → r < row_count → header_size ≤ length m → ⊥) → has_word r i m ≡ false
  word_missing f =
      elim (cases_lt i row_size) [
        | inl h ↦ and_right (ltb i row_size) (has_row r m) (row_missing m r (f h))
        | inr h ↦ and_left (ltb i row_size) (has_row r m) (le-ltb i row_size h)
      ]

  no_word : has_word r i m ≡ false → ◌≡◌ {A = ℕ} 0 (word_at r i m)
  unfolding word_at
  no_word h = sym (cond-false (has_word r i m) (get_or m (row_size * r + i) 0) 0 h)

  pub writes_word : (v : ℕ) → i < row_size → r < row_count → header_size ≤ length m → set m (row_size * r + i) v ≡ with_word r i v m
  unfolding with_word
  writes_word v b h g = sym (cond-true (has_word r i m) (set m (row_size * r + i) v) m (word_there b h g))

  pub no_word_write : (v : ℕ) → has_word r i m ≡ false → m ≡ with_word r i v m
  unfolding with_word
  no_word_write v h = sym (cond-false (has_word r i m) (set m (row_size * r + i) v) m h)

  -- in a row that was read
  pub word_of_row : (row : List ℕ) → has_row r m ≡ true → row ≡ take row_size (drop (row_size * r) m) → get_or row i 0 ≡ word_at r i m
  unfolding word_at
  word_of_row row h e =
      elim (cases_lt i row_size) [
        | inl b ↦ ap (λ t. get_or t i 0) e ∙ get_or-take row_size (drop (row_size * r) m) i 0 b ∙ get_or-drop (row_size * r) m i 0 ∙ sym (cond-true (has_word r i m) (get_or m (row_size * r + i) 0) 0 (and_from (ltb i row_size) (has_row r m) (lt-ltb i row_size b) h))
        | inr b ↦ ap (λ t. get_or t i 0) e ∙ get_or_past (take row_size (drop (row_size * r) m)) i 0 (omega (arith, length-take row_size (drop (row_size * r) m))) ∙ no_word (and_left (ltb i row_size) (has_row r m) (le-ltb i row_size b))
      ]

  pub word_of_none : has_row r m ≡ false → ◌≡◌ {A = ℕ} 0 (word_at r i m)
  word_of_none h = no_word (and_right (ltb i row_size) (has_row r m) h)

-- IN AN IMAGE
module _ (rs : List (List ℕ)) (ss : List Slot) (r : ℕ) (h : length rs ≡ row_count) (l : r < row_count) where
  long : header_size ≤ length (memory rs ss)
  long = omega (arith, memory_length rs ss h)

  within : row_size * r + row_size ≤ length (header rs)
  within = omega (arith, header_length rs h)

  row_is : row_at r (memory rs ss) ≡ pad row_size (get_or rs r [])
  unfolding row_at header
  row_is =
      cond-true (has_row r (memory rs ss)) (take row_size (drop (row_size * r) (memory rs ss))) (replicate row_size 0) (row_there (memory rs ss) r l long)
      ∙ read_left (header rs) (flat_map slot_words ss) (row_size * r) row_size within ∙ joined_read (pad row_size) row_size (pad_length row_size) rs r [] (omega arith)

  row_written : (x : List ℕ) → with_row r (pad row_size x) (memory rs ss) ≡ memory (set rs r x) ss
  unfolding with_row header
  row_written x =
      cond-true (has_row r (memory rs ss)) (put_mid (row_size * r) row_size (memory rs ss) (pad row_size x)) (memory rs ss) (row_there (memory rs ss) r l long)
      ∙ write_left (header rs) (flat_map slot_words ss) (pad row_size x) (row_size * r) row_size within
      ∙ ap (λ t. t ++ flat_map slot_words ss) (joined_write (pad row_size) row_size (pad_length row_size) rs r x (omega arith))

  word_is : (i : ℕ) → i < row_size → length (get_or rs r []) ≤ row_size → word_at r i (memory rs ss) ≡ get_or (get_or rs r []) i 0
  unfolding word_at header
  word_is i b le =
      cond-true (has_word r i (memory rs ss)) (get_or (memory rs ss) (row_size * r + i) 0) 0 (word_there (memory rs ss) r i b l long)
      ∙ get_or_append_left (header rs) (flat_map slot_words ss) 0 (row_size * r + i) (omega (arith, within))
      ∙ joined_at (pad row_size) row_size (pad_length row_size) rs r i [] 0 (omega arith) b ∙ get_or_pad row_size (get_or rs r []) i le

  word_written : (i v : ℕ) → i < length (get_or rs r []) → length (get_or rs r []) ≤ row_size → with_word r i v (memory rs ss) ≡ memory (set rs r (set (get_or rs r []) i v)) ss
  unfolding with_word header
  word_written i v b le =
      cond-true (has_word r i (memory rs ss)) (set (memory rs ss) (row_size * r + i) v) (memory rs ss) (word_there (memory rs ss) r i (omega arith) l long)
      ∙ set-append_left (header rs) (flat_map slot_words ss) (row_size * r + i) v (omega (arith, within))
      ∙ ap (λ t. t ++ flat_map slot_words ss) (joined_set (pad row_size) row_size (pad_length row_size) rs r i [] (set (get_or rs r []) i v) v (omega arith) (omega arith) (pad_set row_size (get_or rs r []) i v le b))

pub row_laws : RowLaws
row_laws =
    record {
      reads = row_is;
      writes = λ rs ss r x h l. row_written rs ss r h l x;
      reads_word = λ rs ss r i h l b le. word_is rs ss r h l i b le;
      writes_word = λ rs ss r i v h l b le. word_written rs ss r h l i v b le;
    }

-- in a longer memory a row is the same
pub row_longer : (m rest : List ℕ) (r : ℕ) → r < row_count → header_size ≤ length m → row_at r (m ++ rest) ≡ row_at r m
row_longer m rest r h g =
    let le : header_size ≤ length (m ++ rest) = omega (arith, length-append m rest) in
    sym (reads_row (m ++ rest) r _ row_size h le refl refl) ∙ read_left m rest (row_size * r) row_size (omega arith) ∙ reads_row m r _ row_size h g refl refl
