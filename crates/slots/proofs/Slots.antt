-- Slots in any memory, and in an image.
use Rattle.std.proofs.Common.{◌≡◌, ℕ, ◌+◌, ◌-◌, ◌*◌, ◌<◌, ◌≤◌, true, false, List, [], ◌++◌, length, get_or, take, drop, set, Some, None, Option, MatchOption, sym, ap, ◌∙◌, arith}
use borrow.Rule.Slice.PartMut.{put_mid}
use Rattle.std.specs.List.{flat_map}
use Rattle.std.proofs.lemmas.List.{length-append, length-take, length-drop, take_all}
use Rattle.std.specs.Array.{IsFirstChunk}
use Rattle.std.specs.declared.ops.Range.{Range}
use Rattle.std.proofs.lemmas.Bool.{cond-true, cond-false, le-leb, lt-leb}
use Rattle.puts.specs.Values.{pad}
use Rattle.puts.specs.Words.{slot_size, put_in, head_in, if_put, Slot, slot_words, code_slot, code_head, FitSlot}
use Rattle.puts.proofs.Blocks.{joined_length, joined_read, joined_write, mid_after, drop_after}
use Rattle.puts.proofs.Padded.{pad_length}
use Rattle.puts.proofs.Slots.{slot_length, slot_back, head_back}
use Rattle.slots.specs.Image.{row_size, row_count, header_size, header, memory, slot_start, has_slot, slot_at, with_slot, put_at, head_at, with_copy}
use Rattle.slots.specs.Laws.{SlotLaws}

-- IN ANY MEMORY: a slot that is there, and one that is not
module _ (m : List ℕ) (k : ℕ) where
  there : slot_start k + slot_size ≤ length m → has_slot k m ≡ true
  there h = le-leb (slot_start k + slot_size) (length m) h

  missing : length m < slot_start k + slot_size → has_slot k m ≡ false
  missing h = lt-leb (slot_start k + slot_size) (length m) h

  -- the first words of the slot's part of the memory
  pub first_is : {A : Type 0} (now : A → List ℕ) (r : Option A) (p : Range ℕ) → p ≡ record { start = slot_start k; end = slot_start k + slot_size } → slot_start k + slot_size ≤ length m →
      MatchOption r (length (take (p.end - p.start) (drop p.start m)) < slot_size) (λ y. IsFirstChunk (take (p.end - p.start) (drop p.start m)) (now y) slot_size) →
      MatchOption r (has_slot k m ≡ false) (λ y. (has_slot k m ≡ true) × (now y ≡ slot_at k m))
  first_is now r p e h f =
      let n : (slot_start k + slot_size) - slot_start k ≡ slot_size = omega arith in
      let s : take (p.end - p.start) (drop p.start m) ≡ slot_at k m = (λ i. take ((e i).end - (e i).start) (drop (e i).start m)) ∙ ap (λ n. take n (drop (slot_start k) m)) n in
      let l : length (slot_at k m) ≡ slot_size = omega (arith, length-take slot_size (drop (slot_start k) m), length-drop (slot_start k) m) in
      elim r as (λ r. MatchOption r (length (take (p.end - p.start) (drop p.start m)) < slot_size) (λ y. IsFirstChunk (take (p.end - p.start) (drop p.start m)) (now y) slot_size) → MatchOption r (has_slot k m ≡ false) (λ y. (has_slot k m ≡ true) × (now y ≡ slot_at k m))) [
        | Some y ↦ λ c. (there h, c.same ∙ ap (take slot_size) s ∙ take_all slot_size (slot_at k m) (omega arith))
        | None ↦ λ c. absurd (omega (arith, ap length s))
      ] f

  pub writes : (ws ys : List ℕ) (start n : ℕ) → start ≡ slot_start k → start + slot_size ≤ length m → n ≡ slot_size → ys ≡ ws → put_mid start n m ys ≡ with_slot k ws m
  unfolding with_slot
  writes ws ys start n e h en ey =
      let le : slot_start k + slot_size ≤ length m = omega arith in
      (λ i. put_mid (e i) (en i) m (ey i)) ∙ sym (cond-true (has_slot k m) (put_mid (slot_start k) slot_size m ws) m (there le))

  pub no_write : (ws : List ℕ) → length m < slot_start k + slot_size → m ≡ with_slot k ws m
  unfolding with_slot
  no_write ws h = sym (cond-false (has_slot k m) (put_mid (slot_start k) slot_size m ws) m (missing h))

  pub no_copy : (to : ℕ) → length m < slot_start k + slot_size → m ≡ with_copy k to m
  unfolding with_copy
  no_copy to h = sym (cond-false (has_slot k m) (with_slot to (slot_at k m) m) m (missing h))

  pub copies : (to : ℕ) (x part : List ℕ) (start n : ℕ) → start ≡ slot_start k → start + slot_size ≤ length m → n ≡ slot_size → part ≡ take n (drop start m) → x ≡ with_slot to part m → x ≡ with_copy k to m
  unfolding with_copy
  copies to x part start n e h en ep ex =
      let le : slot_start k + slot_size ≤ length m = omega arith in
      ex ∙ ap (λ p. with_slot to p m) (ep ∙ (λ i. take (en i) (drop (e i) m))) ∙ sym (cond-true (has_slot k m) (with_slot to (slot_at k m) m) m (there le))

-- IN AN IMAGE
pub header_length : (rs : List (List ℕ)) → length rs ≡ row_count → length (header rs) ≡ header_size
unfolding header
header_length rs h = joined_length (pad row_size) row_size (pad_length row_size) rs ∙ omega arith

pub memory_length : (rs : List (List ℕ)) (ss : List Slot) → length rs ≡ row_count → length (memory rs ss) ≡ header_size + slot_size * length ss
memory_length rs ss h = length-append (header rs) (flat_map slot_words ss) ∙ omega (arith, header_length rs h, joined_length slot_words slot_size slot_length ss)

module _ (rs : List (List ℕ)) (ss : List Slot) (k : ℕ) (h : length rs ≡ row_count) (l : k < length ss) where
  pub slot_there : slot_start k + slot_size ≤ length (memory rs ss)
  slot_there = omega (arith, memory_length rs ss h)

  pub slot_is : slot_at k (memory rs ss) ≡ slot_words (get_or ss k [])
  slot_is = ap (take slot_size) (drop_after (header rs) (flat_map slot_words ss) header_size (slot_size * k) (header_length rs h)) ∙ joined_read slot_words slot_size slot_length ss k [] l

  slot_put : FitSlot (get_or ss k []) → put_at k (memory rs ss) ≡ code_slot (get_or ss k [])
  unfolding put_at
  slot_put f =
      cond-true (has_slot k (memory rs ss)) (if_put (slot_at k (memory rs ss)) (put_in (slot_at k (memory rs ss)))) None (there (memory rs ss) k slot_there)
      ∙ ap (λ ws. if_put ws (put_in ws)) slot_is ∙ slot_back (get_or ss k []) f

  slot_head : FitSlot (get_or ss k []) → head_at k (memory rs ss) ≡ code_head (get_or ss k [])
  unfolding head_at
  slot_head f =
      cond-true (has_slot k (memory rs ss)) (if_put (slot_at k (memory rs ss)) (head_in (slot_at k (memory rs ss)))) None (there (memory rs ss) k slot_there)
      ∙ ap (λ ws. if_put ws (head_in ws)) slot_is ∙ head_back (get_or ss k []) f

  slot_written : (s : Slot) → with_slot k (slot_words s) (memory rs ss) ≡ memory rs (set ss k s)
  unfolding with_slot
  slot_written s =
      cond-true (has_slot k (memory rs ss)) (put_mid (slot_start k) slot_size (memory rs ss) (slot_words s)) (memory rs ss) (there (memory rs ss) k slot_there)
      ∙ mid_after (header rs) (flat_map slot_words ss) (slot_words s) header_size (slot_size * k) slot_size (header_length rs h)
      ∙ ap (λ t. header rs ++ t) (joined_write slot_words slot_size slot_length ss k s l)

slot_copied : (rs : List (List ℕ)) (ss : List Slot) (j k : ℕ) → length rs ≡ row_count → j < length ss → k < length ss → with_copy j k (memory rs ss) ≡ memory rs (set ss k (get_or ss j []))
unfolding with_copy
slot_copied rs ss j k h lj lk =
    cond-true (has_slot j (memory rs ss)) (with_slot k (slot_at j (memory rs ss)) (memory rs ss)) (memory rs ss) (there (memory rs ss) j (slot_there rs ss j h lj))
    ∙ ap (λ ws. with_slot k ws (memory rs ss)) (slot_is rs ss j h lj) ∙ slot_written rs ss k h lk (get_or ss j [])

pub slot_laws : SlotLaws
slot_laws = record { reads = slot_put; heads = slot_head; writes = λ rs ss k s h l. slot_written rs ss k h l s; copies = slot_copied }
