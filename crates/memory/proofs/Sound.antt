-- Each slot of a valid state is sound, each word of its image is below 2^64, and a put that passes the range checks is sound.
use Rattle.std.proofs.Common.{◌≡◌, ℕ, zero, suc, ◌-◌, ◌*◌, ◌%◌, ◌^◌, ◌<◌, ◌≤◌, true, ◌&&◌, eqb, ltb, leb, List, [], ◌∷◌, ◌++◌, map, length, get_or, replicate, sym, refl, subst, arith}
use Rattle.std.specs.List.{flat_map, AllByRecursion}
use Rattle.std.proofs.lemmas.Bool.{and_parts, ltb-true, leb-true, eqb-true}
use Rattle.std.proofs.ByRecursion.{All-append, All-set, All-from_get_or, All-map, All-weaker}
use Rattle.model.specs.Limits.{Limits, count_bound, value_most}
use Rattle.model.specs.Clock.{Clock, small, good_clock}
use Rattle.model.specs.Put.{Put, Body, text, number, key_of, value_of, good_head, good_body}
use Rattle.model.specs.Delivery.{Delivery}
use Rattle.model.specs.Replica.{Replica, came, in_range}
use Rattle.puts.specs.Values.{Small, Bytes, pad}
use Rattle.puts.specs.Words.{slot_size, Slot, slot_words, FitSlot}
use Rattle.puts.proofs.Blocks.{joined_zeros}
use Rattle.std.proofs.lemmas.List.Concat.{flat_map-append}
use Rattle.puts.proofs.Padded.{get_or_pad}
use Rattle.puts.proofs.Slots.{words_below}
use Rattle.slots.specs.Image.{row_size, header}
use Rattle.memory.specs.Image.{sizes, known_rows, rows, one, queue, ring, slots, encode}
use Rattle.memory.specs.Valid.{Sound, SoundSlot, AllSound, Fits, Valid}

-- some put
pub no_put : Put Body
no_put = record { from = 0; seen = []; body = text 0 [] }

all_same : {X : Type 0} (P : X → Type 0) (x : X) → P x → (n : ℕ) → AllByRecursion P (replicate n x)
all_same P x p zero = tt
all_same P x p (suc n) = (p, all_same P x p n)

all_joined : {X : Type 0} (P : ℕ → Type 0) (f : X → List ℕ) (xs : List X) → AllByRecursion (λ x. AllByRecursion P (f x)) xs → AllByRecursion P (flat_map f xs)
all_joined P f [] a = tt
all_joined P f (x ∷ xs) a = All-append P (f x) (flat_map f xs) a.0 (all_joined P f xs a.1)

-- SLOTS
none_sound : (l : Limits) → SoundSlot l []
unfolding SoundSlot
none_sound l = tt

one_sound : (l : Limits) (p : Put Body) → Sound l p → SoundSlot l (one p)
unfolding SoundSlot
one_sound l p s = (s, refl)

pub fit_of : (l : Limits) (s : Slot) → SoundSlot l s → FitSlot s
unfolding SoundSlot FitSlot
fit_of l [] f = tt
fit_of l (p ∷ ps) f = f.0.fit

ring_sound : (l : Limits) (n : ℕ) (ps : List (Put Body)) → AllByRecursion (Sound l) ps → AllByRecursion (SoundSlot l) (ring n ps)
unfolding ring
ring_sound l n [] a = all_same (SoundSlot l) [] (none_sound l) n
ring_sound l n (p ∷ ps) a = All-set (SoundSlot l) (ring n ps) (number p % n) (one p) (one_sound l p a.0) (ring_sound l n ps a.1)

queue_sound : (l : Limits) (n : ℕ) (ps : List (Put Body)) → AllByRecursion (Sound l) ps → AllByRecursion (SoundSlot l) (queue n ps)
unfolding queue
queue_sound l n ps a =
    All-append (SoundSlot l) (map one ps) (replicate (n - length ps) []) (All-map (SoundSlot l) one ps (All-weaker (Sound l) (λ p. SoundSlot l (one p)) (one_sound l) ps a))
    (all_same (SoundSlot l) [] (none_sound l) (n - length ps))

each_sound : (l : Limits) (ps : List (Put Body)) → AllSound l ps → AllByRecursion (Sound l) ps
each_sound l ps f = All-from_get_or (Sound l) ps no_put (λ i h. f i no_put h)

pub slots_sound : (l : Limits) (r : Replica) → Fits l r → AllByRecursion (SoundSlot l) (slots l r)
unfolding slots
slots_sound l r v =
    let P : Slot → Type 0 = SoundSlot l in
    let log : List Slot = ring l.log_most r.delivery.log in
    All-append P (r.store ++ log) (queue l.waiting_most r.delivery.waiting)
    (All-append P r.store log (All-from_get_or P r.store [] v.store.stands) (ring_sound l l.log_most r.delivery.log (each_sound l r.delivery.log v.delivery.logs)))
    (queue_sound l l.waiting_most r.delivery.waiting (each_sound l r.delivery.waiting v.delivery.waits))

-- WORDS
abbrev Word : ℕ → Type 0
Word w = w < 2 ^ 64

zeros_fit : (n : ℕ) → AllByRecursion Word (replicate n 0)
zeros_fit n = all_same Word 0 (omega arith) n

row_fits : (c : List ℕ) → length c ≤ row_size → Small c → AllByRecursion Word (pad row_size c)
row_fits c h s = All-from_get_or Word (pad row_size c) 0 (λ i lt. omega (arith, get_or_pad row_size c i h, s i))

slot_fits : (l : Limits) → l.replicas ≤ 16 → l.keys ≤ 4096 → (s : Slot) → SoundSlot l s → AllByRecursion Word (slot_words s)
unfolding slot_words SoundSlot
slot_fits l h k [] f = zeros_fit slot_size
slot_fits l h k (p ∷ ps) f = words_below p f.0.fit f.0.small (omega (arith, f.0.from)) (omega (arith, f.0.key))

sizes_fit : (l : Limits) (r : Replica) → Valid l r → AllByRecursion Word (pad row_size (sizes l r.delivery))
unfolding pad
sizes_fit l r v =
    let z : Word 0 = omega arith in
    let zs : AllByRecursion Word (replicate 9 0) = zeros_fit 9 in (
      omega (arith, v.fits.delivery.room, v.few.waiting),
      (
        omega (arith, v.shaped.room, v.few.log),
        (omega (arith, v.fits.delivery.me, v.fits.delivery.replicas), (omega (arith, v.fits.delivery.replicas), (omega (arith, v.few.keys), (omega (arith, v.few.log), (omega (arith, v.few.waiting), zs))))),
      ),
    )

-- an empty row
pub no_row : pad row_size [] ≡ replicate row_size 0
unfolding pad
no_row = refl

rows_fit : (l : Limits) (r : Replica) → Valid l r → AllByRecursion Word (header (rows l r.delivery))
unfolding header rows
rows_fit l r v =
    let d : Delivery Body = r.delivery in
    let f = v.fits.delivery in
    let n : ℕ = known_rows - length d.known in
    let known : AllByRecursion Word (flat_map (pad row_size) d.known) =
    all_joined Word (pad row_size) d.known
    (All-from_get_or (λ c. AllByRecursion Word (pad row_size c)) d.known []
    (λ k h. let lk : k < l.replicas = omega (arith, f.known) in row_fits (get_or d.known k []) (omega (arith, f.each k lk, f.replicas)) (f.each_small k lk))) in
    let P : List ℕ → Type 0 = AllByRecursion Word in
    let rest : AllByRecursion Word (flat_map (pad row_size) (replicate n [])) = subst P (sym (joined_zeros (pad row_size) row_size [] no_row n)) (zeros_fit (row_size * n)) in
    All-append Word (pad row_size (sizes l d)) _ (sizes_fit l r v)
    (All-append Word (pad row_size d.clock) _ (row_fits d.clock (omega (arith, f.clock, f.replicas)) f.small)
    (subst P (sym (flat_map-append (pad row_size) d.known (replicate n []))) (All-append Word (flat_map (pad row_size) d.known) _ known rest)))

pub words_fit : (l : Limits) (r : Replica) → Valid l r → AllByRecursion Word (encode l r)
unfolding encode
words_fit l r v =
    All-append Word (header (rows l r.delivery)) (flat_map slot_words (slots l r)) (rows_fit l r v)
    (all_joined Word slot_words (slots l r) (All-weaker (SoundSlot l) (λ s. AllByRecursion Word (slot_words s)) (slot_fits l v.fits.delivery.replicas v.few.keys.1) (slots l r) (slots_sound l r v.fits)))

-- WHAT PASSES THE RANGE CHECKS FITS
small_counts : (c : Clock) → small c ≡ true → Small c
unfolding small
small_counts [] e i = omega arith
small_counts (n ∷ ns) e zero = ltb-true n count_bound (and_parts (ltb n count_bound) (small ns) e).0
small_counts (n ∷ ns) e (suc i) = small_counts ns (and_parts (ltb n count_bound) (small ns) e).1 i

pub clock_fits : (l : Limits) (c : Clock) → good_clock l c ≡ true → (length c ≡ l.replicas) × Small c
clock_fits l c e = let a = and_parts (eqb (length c) l.replicas) (small c) e in (eqb-true (length c) l.replicas a.0, small_counts c a.1)

pub came_sound : (l : Limits) (p : Put Body) → l.replicas ≤ 16 → Bytes (value_of p.body) → in_range l (came p) ≡ true → Sound l p
unfolding in_range
came_sound l p h bytes e =
    let k : ℕ = key_of p.body in
    let v : List ℕ = value_of p.body in
    let a = and_parts (good_body l p.body) (good_head l p) e in
    let b = and_parts (ltb k l.keys) (leb (length v) value_most) a.0 in
    let c = and_parts (ltb p.from l.replicas) (good_clock l p.seen && ltb (number p) count_bound) a.1 in
    let d = and_parts (good_clock l p.seen) (ltb (number p) count_bound) c.1 in
    let f = clock_fits l p.seen d.0 in
    record {
      fit = record { value = leb-true (length v) value_most b.1; bytes = bytes; seen = omega (arith, f.0); number = ltb-true (number p) count_bound d.1 };
      key = ltb-true k l.keys b.0;
      from = ltb-true p.from l.replicas c.0;
      seen = f.0;
      small = f.1;
    }
