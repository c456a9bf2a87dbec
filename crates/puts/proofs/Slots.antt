-- A put in the words of a slot: written, read back, and its head alone.
use Rattle.std.proofs.Common.{◌≡◌, ℕ, ◌+◌, ◌%◌, ◌^◌, ◌<◌, ◌≤◌, eqb, List, [], ◌∷◌, ◌++◌, length, get_or, take, drop, set, replicate, Some, None, sym, refl, ap, ◌∙◌, arith, rules}
use borrow.Rule.Slice.PartMut.{put_mid}
use Rattle.std.specs.List.{AllByRecursion}
use Rattle.std.proofs.lemmas.List.{drop-drop, drop_all, take_at, append_assoc, append-nil, length-append, length-set, places, get_or-append_right, get_or-take, get_or-drop, get_or_past, length-take}
use Rattle.std.proofs.lemmas.Bool.{cond-true, eq-eqb}
use Rattle.std.proofs.lemmas.Slice.{take-put_mid}
use Rattle.std.proofs.ByRecursion.{All-append, All-from_get_or}
use Rattle.model.specs.Limits.{value_most}
use Rattle.model.specs.Put as model
use Rattle.puts.specs.Values.{Put}
use Rattle.puts.specs.Values.{clock_size, pad, Small, Bytes, code_put, Fit}
use Rattle.puts.specs.Words.{slot_size, packed, unpacked, put_words, put_in, head_in, if_put, Slot, slot_words, code_slot, code_head, FitSlot}
use Rattle.puts.proofs.Blocks.{drop_after}
use Rattle.puts.proofs.Padded.{pad_length, get_or_pad, small_pad}
use Rattle.puts.proofs.Bytes.{packed_length, unpacked_packed, packed_below}

front2 : (s : List ℕ) (a b : ℕ) → 2 ≤ length s → take 2 (set (set s 0 a) 1 b) ≡ a ∷ b ∷ []
front2 [] a b h = absurd (omega arith)
front2 (x ∷ []) a b h = absurd (omega arith)
front2 (x ∷ y ∷ s) a b h = refl

-- a write at the end of what is there
at_end : (s y : List ℕ) (a k n : ℕ) → length s ≡ n → a + k ≡ n → length y ≡ k → put_mid a k s y ≡ take a s ++ y
at_end s y a k n ls e ly =
    let p : drop k (drop a s) ≡ [] = drop-drop k a s ∙ drop_all (a + k) s (omega arith) in
    ap (λ t. take a s ++ (y ++ t)) p ∙ ap (λ t. take a s ++ t) (append-nil y)

length_mid : (s y : List ℕ) (a k : ℕ) → a + k ≤ length s → length y ≡ k → length (put_mid a k s y) ≡ length s
length_mid s y a k h ly = search (rules, places)

-- the parts of a put, laid one after the other
parts_laid : (s a m b z : List ℕ) (f : ℕ) → length s ≡ 32 → length a ≡ 16 → length m ≡ 4 → length b ≡ 8 → length z ≡ 2 →
    put_mid 30 2 (put_mid 22 8 (put_mid 18 4 (put_mid 2 16 (set (set s 0 1) 1 f) a) m) b) z ≡ (1 ∷ f ∷ []) ++ (a ++ (m ++ (b ++ z)))
parts_laid s a m b z f ls la lm lb lz =
    let s₀ = set (set s 0 1) 1 f in
    let l₀ : length s₀ ≡ 32 = simp length-set ls in
    let s₁ = put_mid 2 16 s₀ a in
    let l₁ : length s₁ ≡ 32 = length_mid s₀ a 2 16 (omega arith) la ∙ l₀ in
    let s₂ = put_mid 18 4 s₁ m in
    let l₂ : length s₂ ≡ 32 = length_mid s₁ m 18 4 (omega arith) lm ∙ l₁ in
    let l₃ : length (put_mid 22 8 s₂ b) ≡ 32 = length_mid s₂ b 22 8 (omega arith) lb ∙ l₂ in
    at_end (put_mid 22 8 s₂ b) z 30 2 32 l₃ refl lz
    ∙ ap (λ x. x ++ z) (take-put_mid 22 8 s₂ b 30 (omega arith) (omega arith))
    ∙ ap (λ x. (x ++ b) ++ z) (take-put_mid 18 4 s₁ m 22 (omega arith) (omega arith))
    ∙ ap (λ x. ((x ++ m) ++ b) ++ z) (take-put_mid 2 16 s₀ a 18 (omega arith) (omega arith))
    ∙ ap (λ x. (((x ++ a) ++ m) ++ b) ++ z) (front2 s 1 f (omega arith))
    ∙ simp append_assoc

pub put_laid : (s a m b z : List ℕ) (p : Put) → length s ≡ 32 → length p.seen.counts ≡ 16 → a ≡ p.seen.counts → m ≡ 0 ∷ 0 ∷ p.key ∷ p.value.len ∷ [] → b ≡ packed p.value.bytes → z ≡ 0 ∷ 0 ∷ [] →
    put_mid 30 2 (put_mid 22 8 (put_mid 18 4 (put_mid 2 16 (set (set s 0 1) 1 p.from) a) m) b) z ≡ put_words p
unfolding put_words
put_laid s a m b z p ls lc ea em eb ez =
    parts_laid s a m b z p.from ls (ap length ea ∙ lc) (ap length em) (ap length eb ∙ packed_length p.value.bytes) (ap length ez)
    ∙ (λ i. (1 ∷ p.from ∷ []) ++ (ea i ++ (em i ++ (eb i ++ ez i))))

-- a put is read back as it was written
words_back : (q : model.Put model.Body) → Fit q → put_in (put_words (code_put q)) ≡ code_put q
unfolding put_words
words_back q f =
    let v : List ℕ = model.value_of q.body in
    let cs : List ℕ = pad clock_size q.seen in
    let bs : List ℕ = pad value_most v in
    let z : List ℕ = 0 ∷ 0 ∷ [] in
    let m : List ℕ = 0 ∷ 0 ∷ model.key_of q.body ∷ length v ∷ [] in
    let rest : List ℕ = m ++ (packed bs ++ z) in
    let lc = pad_length clock_size q.seen in
    let fits : Bytes bs = λ i. rw (get_or_pad value_most v i f.value) (f.bytes i) in
    let e₁ : take 16 (cs ++ rest) ≡ cs = take_at cs rest 16 lc in
    let e₂ : get_or (cs ++ rest) 18 0 ≡ model.key_of q.body = get_or-append_right cs rest 16 18 0 lc (omega arith) in
    let e₃ : get_or (cs ++ rest) 19 0 ≡ length v = get_or-append_right cs rest 16 19 0 lc (omega arith) in
    let e₄ : take 8 (drop 20 (cs ++ rest)) ≡ packed bs = ap (take 8) (drop_after cs rest 16 4 lc) ∙ take_at (packed bs) z 8 (packed_length bs) in
    let e₅ : unpacked (take 8 (drop 20 (cs ++ rest))) ≡ bs = ap unpacked e₄ ∙ unpacked_packed bs (pad_length value_most v) fits in
    λ i. record { from = q.from; seen = record { counts = e₁ i }; key = e₂ i; value = record { len = e₃ i; bytes = e₅ i } }

pub slot_length : (s : Slot) → length (slot_words s) ≡ slot_size
unfolding slot_words put_words
slot_length [] = refl
slot_length (q ∷ qs) =
    let bs : List ℕ = packed (pad value_most (model.value_of q.body)) in
    let cs : List ℕ = pad clock_size q.seen in
    let z : List ℕ = 0 ∷ 0 ∷ [] in
    let m : List ℕ = 0 ∷ 0 ∷ model.key_of q.body ∷ length (model.value_of q.body) ∷ [] in
    let a = length-append cs (m ++ (bs ++ z)) in
    let b = length-append bs z in
    let k = packed_length (pad value_most (model.value_of q.body)) in
    let l = pad_length clock_size q.seen in
    omega arith

form_is : {A : Type 0} (q : model.Put model.Body) (x : A) → if_put (put_words (code_put q)) x ≡ Some x
unfolding put_words
form_is q x = refl

-- what stands in a slot is read back
pub slot_back : (s : Slot) → FitSlot s → if_put (slot_words s) (put_in (slot_words s)) ≡ code_slot s
unfolding slot_words code_slot FitSlot
slot_back [] f = refl
slot_back (q ∷ qs) f = form_is q (put_in (put_words (code_put q))) ∙ ap (λ x. Some x) (words_back q f)

-- the head: the count at `from` among the counts
pub before_near : (ws : List ℕ) (f : ℕ) → f < 16 → get_or ws (2 + f) 0 ≡ get_or (take 16 (drop 2 ws)) f 0
before_near ws f h = sym (get_or-take 16 (drop 2 ws) f 0 h ∙ get_or-drop 2 ws f 0)

pub before_far : (ws : List ℕ) (f : ℕ) → 16 ≤ f → ◌≡◌ {A = ℕ} 0 (get_or (take 16 (drop 2 ws)) f 0)
before_far ws f h = sym (get_or_past (take 16 (drop 2 ws)) f 0 (omega (arith, length-take 16 (drop 2 ws))))

pub head_read : (ws : List ℕ) (b : ℕ) → get_or ws 0 0 ≡ 1 → b ≡ get_or (take 16 (drop 2 ws)) (get_or ws 1 0) 0 → Some (record { from = get_or ws 1 0; number = (b + 1) % 2 ^ 64 }) ≡ if_put ws (head_in ws)
head_read ws b h e = ap (λ x. Some (record { from = get_or ws 1 0; number = (x + 1) % 2 ^ 64 })) e ∙ sym (cond-true (eqb (get_or ws 0 0) 1) (Some (head_in ws)) None (eq-eqb (get_or ws 0 0) 1 h))

head_is : (q : model.Put model.Body) → Fit q → head_in (put_words (code_put q)) ≡ record { from = q.from; number = model.number q }
unfolding put_words
head_is q f =
    let cs : List ℕ = pad clock_size q.seen in
    let rest : List ℕ = (0 ∷ 0 ∷ model.key_of q.body ∷ length (model.value_of q.body) ∷ []) ++ (packed (pad value_most (model.value_of q.body)) ++ (0 ∷ 0 ∷ [])) in
    let b : get_or (take 16 (cs ++ rest)) q.from 0 ≡ get_or q.seen q.from 0 = ap (λ x. get_or x q.from 0) (take_at cs rest 16 (pad_length clock_size q.seen)) ∙ get_or_pad clock_size q.seen q.from f.seen in
    let n : (get_or (take 16 (cs ++ rest)) q.from 0 + 1) % 2 ^ 64 ≡ model.number q = omega (arith, f.number) in
    λ i. record { from = q.from; number = n i }

pub head_back : (s : Slot) → FitSlot s → if_put (slot_words s) (head_in (slot_words s)) ≡ code_head s
unfolding slot_words code_head FitSlot
head_back [] f = refl
head_back (q ∷ qs) f = form_is q (head_in (put_words (code_put q))) ∙ ap (λ x. Some x) (head_is q f)

pub put_is : (p : Put) (q : model.Put model.Body) (y : List ℕ) → y ≡ put_words p → p ≡ code_put q → y ≡ slot_words (q ∷ [])
unfolding slot_words
put_is p q y e d = e ∙ ap put_words d

pub none_is : replicate slot_size 0 ≡ slot_words []
unfolding slot_words
none_is = refl

-- each word of a slot fits
pub words_below : (q : model.Put model.Body) → Fit q → Small q.seen → q.from < 2 ^ 64 → model.key_of q.body < 2 ^ 64 → AllByRecursion (λ w. w < 2 ^ 64) (put_words (code_put q))
unfolding put_words
words_below q f small lf lk =
    let P : ℕ → Type 0 = λ w. w < 2 ^ 64 in
    let v : List ℕ = model.value_of q.body in
    let cs : List ℕ = pad clock_size q.seen in
    let bs : List ℕ = pad value_most v in
    let fits : Bytes bs = λ i. rw (get_or_pad value_most v i f.value) (f.bytes i) in
    let z : 0 < 2 ^ 64 = omega arith in
    let counts : AllByRecursion P cs = All-from_get_or P cs 0 (λ i h. omega (arith, small_pad clock_size q.seen f.seen small i)) in
    let value : AllByRecursion P (packed bs) = All-from_get_or P (packed bs) 0 (packed_below bs fits) in
    (omega arith, (lf, All-append P cs _ counts (z, (z, (lk, (omega (arith, f.value), All-append P (packed bs) (0 ∷ 0 ∷ []) value (z, (z, tt))))))))
