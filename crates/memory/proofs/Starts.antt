-- A new replica in memory.
use Rattle.std.proofs.Common.{◌≡◌, ℕ, ◌+◌, ◌-◌, ◌*◌, ◌<◌, ◌≤◌, Bool, List, [], ◌∷◌, ◌++◌, length, get_or, take, drop, replicate, sym, refl, ap, ◌∙◌, subst, arith}
use Rattle.std.specs.List.{flat_map}
use Rattle.std.proofs.lemmas.List.{length-replicate, replicate-append-replicate, get_or-replicate, length-append, take_at, drop_at}
use Rattle.model.specs.Limits.{Limits, GoodLimits}
use Rattle.model.specs.Delivery.{new_delivery}
use Rattle.model.specs.Replica.{Replica, new_replica}
use Rattle.puts.specs.Values.{pad}
use Rattle.puts.specs.Words.{slot_size, Slot, slot_words}
use Rattle.puts.proofs.Blocks.{joined_zeros}
use Rattle.std.proofs.lemmas.List.Concat.{flat_map-append}
use Rattle.puts.proofs.Padded.{pad_zeros, get_or_zeros}
use Rattle.puts.proofs.Slots.{none_is}
use Rattle.slots.specs.Image.{row_size, row_count, header_size, header, memory, with_row, row_at}
use Rattle.slots.proofs.Rows.{row_laws, row_longer}
use Rattle.memory.specs.declared.Limits.{Limits as CodeLimits}
use Rattle.memory.specs.Layout.{model_limits, code_limits, InRange, total, words, first_row, limits_in, me_at, limits_at, Room}
use Rattle.memory.specs.Image.{sizes, rows, queue, ring, slots, encode}
use Rattle.memory.proofs.Images.{rows_length, encode_length}
use Rattle.memory.proofs.Sound.{no_row}
use Rattle.memory.specs.Valid.{SoundSlot, Down, Fits, Valid}
use Rattle.memory.specs.Laws.{Opened}

-- memory of zeros has no rows and no slots
pub zeros_are : (n : ℕ) → replicate (header_size + slot_size * n) 0 ≡ memory (replicate row_count []) (replicate n [])
unfolding header
zeros_are n =
    let z : ℕ = 0 in
    sym
    (ap (λ t. t ++ flat_map slot_words (replicate n [])) (joined_zeros (pad row_size) row_size [] no_row row_count)
    ∙ ap (λ t. replicate header_size z ++ t) (joined_zeros slot_words slot_size [] (sym none_is) n) ∙ replicate-append-replicate header_size (slot_size * n) z)

module _ (l : Limits) (i : ℕ) where
  new_rows : l.replicas ≤ 16 → header (sizes l (new_delivery l i) ∷ replicate 31 []) ≡ header (rows l (new_delivery l i))
  unfolding header rows
  new_rows h =
      let n : ℕ = l.replicas in
      let z : ℕ = 0 in
      let s : List ℕ = sizes l (new_delivery l i) in
      let zs : List ℕ = replicate n z in
      let none : List ℕ = [] in
      let k : 16 * n + 16 * (30 - n) ≡ 480 = omega arith in
      let lk : length (replicate n zs) ≡ n = length-replicate n zs in
      let a : flat_map (pad 16) (replicate n zs ++ replicate (30 - n) none) ≡ replicate 480 z =
      flat_map-append (pad 16) (replicate n zs) (replicate (30 - n) none) ∙ ap (λ t. t ++ flat_map (pad 16) (replicate (30 - n) none)) (joined_zeros (pad 16) 16 zs (pad_zeros 16 n h) n)
      ∙ ap (λ t. replicate (16 * n) z ++ t) (joined_zeros (pad 16) 16 none no_row (30 - n)) ∙ replicate-append-replicate (16 * n) (16 * (30 - n)) z ∙ ap (λ t. replicate t z) k in
      let b : flat_map (pad 16) (replicate 31 none) ≡ pad 16 zs ++ flat_map (pad 16) (replicate n zs ++ replicate (30 - n) none) =
      joined_zeros (pad 16) 16 none no_row 31 ∙ sym (replicate-append-replicate 16 480 z) ∙ ap (λ t. t ++ replicate 480 z) (sym (pad_zeros 16 n h)) ∙ ap (λ t. pad 16 zs ++ t) (sym a) in
      ap (λ t. pad 16 s ++ t) b ∙ ap (λ m. pad 16 s ++ (pad 16 zs ++ flat_map (pad 16) (replicate n zs ++ replicate (30 - m) none))) (sym lk)

  new_slots : replicate (l.keys + l.log_most + l.waiting_most) [] ≡ slots l (new_replica l i)
  unfolding slots queue ring
  new_slots =
      let none : Slot = [] in
      let z : l.waiting_most ≡ l.waiting_most - 0 = omega arith in
      sym (replicate-append-replicate (l.keys + l.log_most) l.waiting_most none)
      ∙ ap (λ t. t ++ replicate l.waiting_most none) (sym (replicate-append-replicate l.keys l.log_most none))
      ∙ ap (λ k. (replicate l.keys none ++ replicate l.log_most none) ++ replicate k none) z

  -- zeros, and the first row written
  pub started : (m counts : List ℕ) → l.replicas ≤ 16 → m ≡ replicate (header_size + slot_size * (l.keys + l.log_most + l.waiting_most)) 0 → counts ≡ pad row_size (first_row 0 0 i (code_limits l)) → with_row 0 counts m ≡ encode l (new_replica l i)
  unfolding encode
  started m counts h em ec =
      let n : ℕ = l.keys + l.log_most + l.waiting_most in
      (λ k. with_row 0 (ec k) ((em ∙ zeros_are n) k))
      ∙ row_laws.writes (replicate row_count []) (replicate n []) 0 (first_row 0 0 i (code_limits l)) refl (omega arith)
      ∙ ap (λ t. t ++ flat_map slot_words (replicate n [])) (new_rows h) ∙ ap (memory (rows l (new_delivery l i))) new_slots

pub new_valid : (l : Limits) (i : ℕ) → InRange (code_limits l) → i < l.replicas → Valid l (new_replica l i)
unfolding SoundSlot Down
new_valid l i g h =
    let n : ℕ = l.replicas in
    let z : ℕ = 0 in
    let none : Slot = [] in
    let zs : List ℕ = replicate n z in
    let known : (k : ℕ) → k < n → get_or (replicate n zs) k [] ≡ zs = λ k lt. get_or-replicate n k zs [] lt in
    let P : Slot → Type 0 = SoundSlot l in
    record {
      fits = record {
        delivery = record {
          replicas = g.replicas.1;
          me = h;
          clock = length-replicate n z;
          small = λ k. omega (arith, get_or_zeros n [] k);
          known = length-replicate n zs;
          each = λ k lt. ap length (known k lt) ∙ length-replicate n z;
          each_small = λ k lt j. omega (arith, ap (λ c. get_or c j 0) (known k lt), get_or_zeros n [] j);
          room = omega arith;
          waits = λ k d lt. absurd (omega arith);
          logs = λ k d lt. absurd (omega arith);
        };
        store = record {
          keys = length-replicate l.keys none;
          stands = λ k lt. subst P (sym (get_or-replicate l.keys k none none (omega (arith, length-replicate l.keys none)))) tt;
        };
      };
      shaped = record { down = tt; room = omega arith; some = omega (arith, g.log); others = λ k p lt. absurd (omega arith) };
      few = g;
    }

-- THE LIMITS OF THE MODEL and those of the code are in range together
pub good_ranges : (can : ℕ → Bool) (l : Limits) → GoodLimits can l → InRange (code_limits l)
good_ranges can l g = record { replicas = g.replicas; keys = g.keys; log = g.log_most; waiting = g.waiting_most }

pub ranges_good : (can : ℕ → Bool) (x : CodeLimits) → InRange x → GoodLimits can (model_limits can x)
ranges_good can x g = record { replicas = g.replicas; keys = g.keys; log_most = g.log; waiting_most = g.waiting; supports = λ k. refl }

-- the first row, as the code writes it
pub first_is : (i : ℕ) (x : CodeLimits) → 0 ∷ 0 ∷ i ∷ x.replicas ∷ x.keys ∷ x.log ∷ x.waiting ∷ replicate 9 0 ≡ pad row_size (first_row 0 0 i x)
unfolding pad
first_is i x = refl

-- the part that was lent, and what lies behind it
pub opened : (x : CodeLimits) (i n : ℕ) (before part : List ℕ) → n ≡ total x → Room x i before → ((can : ℕ → Bool) → part ≡ encode (model_limits can x) (new_replica (model_limits can x) i)) → Opened x i before (part ++ drop n before)
opened x i n before part en g e =
    record {
      room = g;
      valid = λ can. new_valid (model_limits can x) i g.limits g.me;
      image = λ can. (λ k. e can k ++ drop (en k) before);
    }

-- WHAT THE HEADER OF A REPLICA SAYS
said_is : (l : Limits) (s : Replica) (row : List ℕ) → row ≡ pad row_size (sizes l s.delivery) → (limits_in row ≡ code_limits l) × (get_or row 2 0 ≡ s.delivery.me)
unfolding pad
said_is l s row e = (λ k. limits_in (e k), ap (λ x. get_or x 2 0) e)

pub header_says : (l : Limits) (s : Replica) (m rest : List ℕ) → Valid l s → m ≡ encode l s ++ rest → ((limits_at m ≡ code_limits l) × (me_at m ≡ s.delivery.me)) × Room (limits_at m) (me_at m) m
unfolding encode rows
header_says l s m rest v e =
    let le = encode_length l s v.fits in
    let row : row_at 0 m ≡ pad row_size (sizes l s.delivery) =
    ap (row_at 0) e ∙ row_longer (encode l s) rest 0 (omega arith) (omega arith) ∙ row_laws.reads (rows l s.delivery) (slots l s) 0 (rows_length l s.delivery v.fits.delivery) (omega arith) in
    let h = said_is l s (row_at 0 m) row in
    let P : CodeLimits → Type 0 = InRange in
    let k = ap (λ x. x.keys) h.0 in
    let g = ap (λ x. x.log) h.0 in
    let w = ap (λ x. x.waiting) h.0 in
    let n = ap (λ x. x.replicas) h.0 in
    (h, record { limits = subst P (sym h.0) v.few; me = omega (arith, h.1, v.fits.delivery.me); words = omega (arith, ap length e, length-append (encode l s) rest) })

-- the first words of a longer memory, lent, and the rest of it
pub lent : (l : Limits) (r : Replica) (m rest : List ℕ) (n : ℕ) → Fits l r → n ≡ words l → m ≡ encode l r ++ rest → (take n m ≡ encode l r) × (drop n m ≡ rest)
lent l r m rest n v en em =
    let e : length (encode l r) ≡ n = encode_length l r v ∙ sym en in
    (ap (take n) em ∙ take_at (encode l r) rest n e, ap (drop n) em ∙ drop_at (encode l r) rest n e)
