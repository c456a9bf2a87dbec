-- Two valid states with the same image are the same.
use Rattle.std.proofs.Common.{◌≡◌, ℕ, suc, ◌+◌, ◌-◌, ◌%◌, ◌<◌, [], ◌∷◌, length, get_or, take, sym, refl, ap, ◌∙◌, mod-lt, arith}
use Rattle.std.proofs.lemmas.List.{ext_get_or}
use Rattle.std.proofs.ByRecursion.{All-get_or}
use Rattle.model.specs.Limits.{Limits}
use Rattle.model.specs.Clock.{Clock, at}
use Rattle.model.specs.Put.{Put, Body}
use Rattle.model.specs.Replica.{Replica}
use Rattle.puts.specs.Values.{pad, put_of, narrow, code_put}
use Rattle.puts.specs.Words.{put_in, if_put, Slot, slot_words, code_slot}
use Rattle.puts.proofs.Padded.{take_pad, put_back}
use Rattle.puts.proofs.Slots.{slot_back}
use Rattle.slots.specs.Image.{row_size, row_count, slot_at, row_at}
use Rattle.slots.proofs.Slots.{slot_is}
use Rattle.slots.proofs.Rows.{row_laws}
use Rattle.memory.specs.Layout.{code_limits}
use Rattle.memory.specs.Image.{sizes, rows, one, slots, encode}
use Rattle.memory.specs.Valid.{SoundSlot, Valid}
use Rattle.memory.proofs.Rings.{ring_at}
use Rattle.memory.proofs.Images.{rows_length, row_known, slots_length, key_slot, log_slot, waiting_slot, queue_at}
use Rattle.memory.proofs.Sound.{no_put, fit_of, slots_sound}

-- a slot with the same words
same_code : (l m : Limits) → l.replicas ≡ m.replicas → (x y : Slot) → SoundSlot l x → SoundSlot m y → code_slot x ≡ code_slot y → x ≡ y
unfolding SoundSlot code_slot
same_code l m n [] [] f g e = refl
same_code l m n [] (q ∷ qs) f g e = let z : ◌≡◌ {A = ℕ} 0 1 = cc in absurd (omega arith)
same_code l m n (p ∷ ps) [] f g e = let z : ◌≡◌ {A = ℕ} 0 1 = cc in absurd (omega arith)
same_code l m n (p ∷ ps) (q ∷ qs) f g e =
    let c : code_put p ≡ code_put q = cc in
    let h : p ≡ q = sym (put_back l.replicas p f.0.seen f.0.fit) ∙ ap (λ x. narrow l.replicas (put_of x)) c ∙ put_back l.replicas q (g.0.seen ∙ sym n) g.0.fit in
    (λ i. h i ∷ (f.1 ∙ sym g.1) i)

module _ (l m : Limits) (r s : Replica) (v : Valid l r) (w : Valid m s) (e : encode l r ≡ encode m s) where
  same_row : (k : ℕ) → k < row_count → pad row_size (get_or (rows l r.delivery) k []) ≡ pad row_size (get_or (rows m s.delivery) k [])
  unfolding encode
  same_row k h =
      sym (row_laws.reads (rows l r.delivery) (slots l r) k (rows_length l r.delivery v.fits.delivery) h) ∙ ap (row_at k) e
      ∙ row_laws.reads (rows m s.delivery) (slots m s) k (rows_length m s.delivery w.fits.delivery) h

  same_sizes : sizes l r.delivery ≡ sizes m s.delivery
  unfolding rows
  same_sizes = sym (take_pad row_size 7 (sizes l r.delivery) refl (omega arith)) ∙ ap (take 7) (same_row 0 (omega arith)) ∙ take_pad row_size 7 (sizes m s.delivery) refl (omega arith)

  size : (i : ℕ) → get_or (sizes l r.delivery) i 0 ≡ get_or (sizes m s.delivery) i 0
  size i = ap (λ x. get_or x i 0) same_sizes

  pub same_limits : code_limits l ≡ code_limits m
  same_limits = λ i. record { replicas = size 3 i; keys = size 4 i; log = size 5 i; waiting = size 6 i }

  -- a row that holds a clock
  same_count : (c d : Clock) → length c ≡ l.replicas → length d ≡ m.replicas → pad row_size c ≡ pad row_size d → c ≡ d
  same_count c d a b p =
      sym (take_pad row_size l.replicas c a v.fits.delivery.replicas) ∙ ap (take l.replicas) p ∙ take_pad row_size l.replicas d (b ∙ sym (size 3)) v.fits.delivery.replicas

  same_clock : r.delivery.clock ≡ s.delivery.clock
  unfolding rows
  same_clock = same_count r.delivery.clock s.delivery.clock v.fits.delivery.clock w.fits.delivery.clock (same_row 1 (omega arith))

  same_known : r.delivery.known ≡ s.delivery.known
  same_known =
      let ks = r.delivery.known in
      let js = s.delivery.known in
      ext_get_or [] ks js (v.fits.delivery.known ∙ size 3 ∙ sym w.fits.delivery.known)
      (λ k h.
      let lk : k < l.replicas = omega (arith, v.fits.delivery.known) in
      let mk : k < m.replicas = omega (arith, size 3) in
      same_count (get_or ks k []) (get_or js k []) (v.fits.delivery.each k lk) (w.fits.delivery.each k mk)
      (ap (pad row_size) (sym (row_known l r.delivery k v.fits.delivery lk)) ∙ same_row (suc (suc k)) (omega (arith, v.fits.delivery.replicas)) ∙ ap (pad row_size) (row_known m s.delivery k w.fits.delivery mk)))

  same_slot : (k : ℕ) → k < l.keys + l.log_most + l.waiting_most → get_or (slots l r) k [] ≡ get_or (slots m s) k []
  unfolding encode
  same_slot k h =
      let lr = slots_length l r v.fits in
      let ls = slots_length m s w.fits in
      let kr : k < length (slots l r) = omega arith in
      let ks : k < length (slots m s) = omega (arith, size 4, size 5, size 6) in
      let f = All-get_or (SoundSlot l) (slots l r) k [] kr (slots_sound l r v.fits) in
      let g = All-get_or (SoundSlot m) (slots m s) k [] ks (slots_sound m s w.fits) in
      let ws : slot_words (get_or (slots l r) k []) ≡ slot_words (get_or (slots m s) k []) =
      sym (slot_is (rows l r.delivery) (slots l r) k (rows_length l r.delivery v.fits.delivery) kr) ∙ ap (slot_at k) e ∙ slot_is (rows m s.delivery) (slots m s) k (rows_length m s.delivery w.fits.delivery) ks in
      same_code l m (size 3) (get_or (slots l r) k []) (get_or (slots m s) k []) f g
      (sym (slot_back (get_or (slots l r) k []) (fit_of l (get_or (slots l r) k []) f)) ∙ ap (λ x. if_put x (put_in x)) ws ∙ slot_back (get_or (slots m s) k []) (fit_of m (get_or (slots m s) k []) g))

  same_store : r.store ≡ s.store
  same_store =
      ext_get_or [] r.store s.store (v.fits.store.keys ∙ size 4 ∙ sym w.fits.store.keys)
      (λ k h.
      let lk : k < l.keys = omega (arith, v.fits.store.keys) in
      let mk : k < m.keys = omega (arith, size 4) in
      sym (key_slot l r v.fits k lk) ∙ same_slot k (omega arith) ∙ key_slot m s w.fits k mk)

  one_same : (p q : Put Body) → one p ≡ one q → p ≡ q
  one_same p q h = cc

  same_waiting : r.delivery.waiting ≡ s.delivery.waiting
  same_waiting =
      let ps = r.delivery.waiting in
      let qs = s.delivery.waiting in
      ext_get_or no_put ps qs (size 0)
      (λ k h.
      let lk : k < l.waiting_most = omega (arith, v.fits.delivery.room) in
      let mk : k < m.waiting_most = omega (arith, size 6) in
      let hk : k < length qs = omega (arith, size 0) in
      let place : (l.keys + l.log_most) + k ≡ (m.keys + m.log_most) + k = omega (arith, size 4, size 5) in
      one_same (get_or ps k no_put) (get_or qs k no_put)
      (sym (waiting_slot l r v.fits k lk ∙ queue_at l.waiting_most ps k no_put h) ∙ same_slot ((l.keys + l.log_most) + k) (omega arith)
      ∙ ap (λ x. get_or (slots m s) x []) place ∙ waiting_slot m s w.fits k mk ∙ queue_at m.waiting_most qs k no_put hk))

  same_log : r.delivery.log ≡ s.delivery.log
  same_log =
      let ps = r.delivery.log in
      let qs = s.delivery.log in
      let own : ℕ = at r.delivery.clock r.delivery.me in
      let own' : ℕ = at s.delivery.clock s.delivery.me in
      let same_own : own ≡ own' = (λ i. at (same_clock i) (size 2 i)) in
      ext_get_or no_put ps qs (size 1)
      (λ k h.
      let hk : k < length qs = omega (arith, size 1) in
      let n : ℕ = (own - k) % l.log_most in
      let n' : ℕ = (own' - k) % m.log_most in
      let same : n ≡ n' = (λ i. (same_own i - k) % size 5 i) in
      let ln = mod-lt (own - k) v.shaped.some in
      let mn = mod-lt (own' - k) w.shaped.some in
      let place : l.keys + n ≡ m.keys + n' = omega (arith, size 4) in
      one_same (get_or ps k no_put) (get_or qs k no_put)
      (sym (log_slot l r v.fits n ln ∙ ring_at l.log_most r.delivery.me own ps k no_put v.shaped.down v.shaped.some v.shaped.room h) ∙ same_slot (l.keys + n) (omega arith)
      ∙ ap (λ x. get_or (slots m s) x []) place ∙ log_slot m s w.fits n' mn ∙ ring_at m.log_most s.delivery.me own' qs k no_put w.shaped.down w.shaped.some w.shaped.room hk))

  pub same_state : r ≡ s
  same_state = λ i. record { delivery = record { me = size 2 i; clock = same_clock i; log = same_log i; waiting = same_waiting i; known = same_known i }; store = same_store i }
