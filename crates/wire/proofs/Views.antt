-- What bytes are, for each part that they may be read as.
use Rattle.std.proofs.Common.{◌≡◌, ℕ, zero, suc, ◌+◌, ◌-◌, ◌*◌, ◌<◌, ◌≤◌, Bool, true, false, cond, ◌&&◌, ltb, leb, List, [], ◌∷◌, ◌++◌, length, drop, replicate, sym, refl, ap, ◌∙◌, subst, ⊎_elim, append_assoc, arith, length-append, length-drop}
use lib.ListN.{length-replicate}
use Rattle.std.proofs.lemmas.List.{drop_all, drop_at}
use Rattle.std.proofs.lemmas.Bool.Decides.{nat_tests}
use Rattle.std.proofs.lemmas.Bool.{lt-ltb, lt-leb, le-leb, ne_eqb, and_from, and_parts, ltb-true, cases_lt}
use Rattle.model.specs.Clock.{Clock}
use Rattle.model.specs.Put.{Put, Body, text}
use Rattle.model.specs.Cluster.{Told}
use Rattle.model.specs.Program.{byte_bound, word_bound, all_below, readable_body}
use Rattle.wire.specs.Bytes.{write_number, write_counts, write_clock, write_body, write_put}
use Rattle.wire.specs.Reading.{Part, whole, ceases, then, number_in, clock_size, read_body, read_put, read_key, read_told, read_nothing}
use Rattle.wire.specs.Theorems.{AllBytes}
use Rattle.wire.proofs.Numbers.{number_back, number_only, first_byte, other_bytes, bytes_drop}
use Rattle.wire.proofs.Clocks.{size_step, size_short, size_none, size_end, size_bad, size_counts, clock_back}

-- They are what w writes of something; or a beginning of it; or they cease to be it at x, whatever follows.
pub data View (A : Type 0) (w : A → List ℕ) (good : A → Bool) (r : List ℕ → Part A) (s : List ℕ) : Type 0 where
  exact : (a : A) → good a ≡ true → w a ≡ s → r s ≡ whole a → View A w good r s
  cut : (a : A) (t : List ℕ) → good a ≡ true → w a ≡ s ++ t → r s ≡ ceases (length s) → View A w good r s
  bad : (p : List ℕ) (x : ℕ) (q : List ℕ) (a : A) (t : List ℕ) → good a ≡ true → p ++ (x ∷ q) ≡ s → w a ≡ p ++ t → ((u : List ℕ) → r (p ++ (x ∷ u)) ≡ ceases (length p)) → View A w good r s

-- after the bytes z
module _ {A B : Type 0} {w : A → List ℕ} {good : A → Bool} {r : List ℕ → Part A} {w2 : B → List ℕ} {good2 : B → Bool} {r2 : List ℕ → Part B} (z : List ℕ) (f : A → B) where
  pub prefixed : ((a : A) → good a ≡ true → good2 (f a) ≡ true) → ((a : A) → w2 (f a) ≡ z ++ w a) → ((u : List ℕ) → r2 (z ++ u) ≡ then (length z) (r u) (λ a. whole (f a))) → (s : List ℕ) → View A w good r s → View B w2 good2 r2 (z ++ s)
  prefixed ok wf rf s (exact a g e h) = exact (f a) (ok a g) (wf a ∙ ap (λ x. z ++ x) e) (rf s ∙ ap (λ p. then (length z) p (λ b. whole (f b))) h)
  prefixed ok wf rf s (cut a t g e h) =
      cut (f a) t (ok a g) (wf a ∙ ap (λ x. z ++ x) e ∙ sym (append_assoc z s t)) (rf s ∙ ap (λ p. then (length z) p (λ b. whole (f b))) h ∙ ap ceases (sym (length-append z s)))
  prefixed ok wf rf s (bad p x q a t g e h all) =
      bad (z ++ p) x q (f a) t (ok a g) (append_assoc z p (x ∷ q) ∙ ap (λ y. z ++ y) e) (wf a ∙ ap (λ y. z ++ y) h ∙ sym (append_assoc z p t))
      (λ u. ap r2 (append_assoc z p (x ∷ u)) ∙ rf (p ++ (x ∷ u)) ∙ ap (λ y. then (length z) y (λ b. whole (f b))) (all u) ∙ ap ceases (sym (length-append z p)))

bytes_append : (s t : List ℕ) → AllBytes s → AllBytes t → AllBytes (s ++ t)
unfolding all_below
bytes_append [] t a b = b
bytes_append (x ∷ s) t a b = and_from (ltb x 256) _ (lt-ltb x 256 (first_byte x s a)) (bytes_append s t (other_bytes x s a) b)

bytes_zeros : (n : ℕ) → AllBytes (replicate n 0)
unfolding all_below
bytes_zeros zero = refl
bytes_zeros (suc n) = bytes_zeros n

-- NUMBERS: a beginning of one
number_cut : (s : List ℕ) → AllBytes s → length s < 8 → (n : ℕ) × (t : List ℕ) × (n < word_bound) × (write_number n ≡ s ++ t)
number_cut s k h =
    let t : List ℕ = replicate (8 - length s) 0 in
    let long : length (s ++ t) ≡ 8 = simp (length-append, length-replicate) (omega arith) in
    let only = number_only (s ++ t) (bytes_append s t k (bytes_zeros (8 - length s))) (omega arith) in
    let all : write_number (number_in (s ++ t)) ≡ s ++ t = ap (λ r. write_number (number_in (s ++ t)) ++ r) (sym (drop_all 8 (s ++ t) (omega arith))) ∙ only.0 in
    (number_in (s ++ t), t, only.1, all)

-- CLOCKS: one and what follows; or a beginning of one; or another marker
pub data ClockView (s : List ℕ) : Type 0 where
  ended : (c : Clock) (v : List ℕ) → all_below word_bound c ≡ true → AllBytes v → write_clock c v ≡ s → ClockView s
  broken : (c : Clock) (t : List ℕ) → all_below word_bound c ≡ true → write_clock c [] ≡ s ++ t → clock_size s ≡ ceases (length s) → ClockView s
  marked : (c : Clock) (x : ℕ) (q : List ℕ) → all_below word_bound c ≡ true → write_counts c ++ (x ∷ q) ≡ s → 1 < x → ClockView s

-- a count before it
one_more : (n : ℕ) (s : List ℕ) → n < word_bound → ClockView s → ClockView (1 ∷ (write_number n ++ s))
unfolding all_below write_counts
one_more n s b (ended c v g k e) = ended (n ∷ c) v (and_from _ _ (lt-ltb n word_bound b) g) k (ap (λ r. 1 ∷ (write_number n ++ r)) e)
one_more n s b (broken c t g e h) =
    broken (n ∷ c) t (and_from _ _ (lt-ltb n word_bound b) g) (ap (λ r. 1 ∷ (write_number n ++ r)) e)
    (size_step (1 ∷ (write_number n ++ s)) (omega arith) refl ∙ ap (λ p. then 9 p (λ k. whole (9 + k))) h ∙ ap ceases (omega arith))
one_more n s b (marked c x q g e h) = marked (n ∷ c) x q (and_from _ _ (lt-ltb n word_bound b) g) (ap (λ r. 1 ∷ (write_number n ++ r)) e) h

-- a count that is cut short
half_count : (s : List ℕ) → AllBytes s → length s < 8 → ClockView (1 ∷ s)
unfolding all_below write_counts
half_count s k h =
    let num = number_cut s k h in
    broken (num.0 ∷ []) (num.1 ++ (0 ∷ [])) (and_from _ _ (lt-ltb num.0 word_bound num.2) refl) (ap (λ r. 1 ∷ (r ++ (0 ∷ []))) num.3 ∙ ap (λ r. 1 ∷ r) (append_assoc s num.1 (0 ∷ []))) (size_short 1 s refl (omega arith))

pub clock_view : (f : ℕ) (s : List ℕ) → length s ≤ f → AllBytes s → ClockView s
unfolding write_counts all_below clock_size
clock_view f [] l k = broken [] (0 ∷ []) refl refl (size_none)
clock_view f (zero ∷ s) l k = ended [] s refl (other_bytes zero s k) refl
clock_view f (suc (suc x) ∷ s) l k = marked [] (suc (suc x)) s refl refl (omega arith)
clock_view zero (suc zero ∷ s) l k = absurd (omega arith)
clock_view (suc f) (suc zero ∷ s) l k =
    let ks = other_bytes 1 s k in
    ⊎_elim (λ short. half_count s ks short)
    (λ long.
    let num = number_only s ks long in
    let rest = clock_view f (drop 8 s) (simp length-drop (omega arith)) (bytes_drop 8 s ks) in
    subst (λ t. ClockView (1 ∷ t)) num.0 (one_more (number_in s) (drop 8 s) num.1 rest))
    (cases_lt (length s) 8)

-- A number and a clock at the head of bytes
abbrev head : ℕ → Clock → List ℕ
head n c = write_number n ++ (write_counts c ++ (0 ∷ []))

head_then : (n : ℕ) (c : Clock) (v : List ℕ) → head n c ++ v ≡ write_number n ++ write_clock c v
head_then n c v = ap (λ t. write_number n ++ t) (append_assoc (write_counts c) (0 ∷ []) v)

pub length_counts : (c : Clock) → length (write_counts c) ≡ 9 * length c
unfolding write_counts
length_counts [] = refl
length_counts (n ∷ ns) = let h = length_counts ns in omega arith

pub length_clock : (c : Clock) (s : List ℕ) → length (write_clock c s) ≡ 9 * length c + suc (length s)
length_clock c s = simp length-append (omega (arith, length_counts c))

pub length_put : (p : Put Body) → length (write_put p) ≡ 9 + (9 * length p.seen + length (write_body p.body))
length_put p = omega (arith, length_clock p.seen (write_body p.body))

length_head : (n : ℕ) (c : Clock) → length (head n c) ≡ 9 + 9 * length c
length_head n c = let h = length_counts c in simp length-append (omega arith)

drop_head : (n : ℕ) (c : Clock) (v : List ℕ) → drop (8 + (9 * length c + 1)) (write_number n ++ write_clock c v) ≡ v
drop_head n c v =
    let long : length (head n c) ≡ 8 + (9 * length c + 1) = length_head n c ∙ omega arith in
    ap (drop (8 + (9 * length c + 1))) (sym (head_then n c v)) ∙ drop_at (head n c) v _ long

pub size_clock : (c : Clock) (v : List ℕ) → clock_size (write_clock c v) ≡ whole (9 * length c + 1)
size_clock c v = size_counts c (0 ∷ v) ∙ ap (λ p. then (9 * length c) p (λ k. whole (9 * length c + k))) (size_end v)

-- another marker
pub marker_size : (c : Clock) (x : ℕ) (s : List ℕ) → 1 < x → clock_size (write_counts c ++ (x ∷ s)) ≡ ceases (9 * length c + 0)
marker_size c x s h = size_counts c (x ∷ s) ∙ ap (λ p. then (9 * length c) p (λ k. whole (9 * length c + k))) (size_bad x s h)

-- bytes that begin with a number and a clock, and go on as others
module _ {A B : Type 0} {w : A → List ℕ} {good : A → Bool} {r : List ℕ → Part A} {w2 : B → List ℕ} {good2 : B → Bool} {r2 : List ℕ → Part B} (f : ℕ → Clock → A → B) (a0 : A) (g0 : good a0 ≡ true)
    (ok : (n : ℕ) (c : Clock) (a : A) → n < word_bound → all_below word_bound c ≡ true → good a ≡ true → good2 (f n c a) ≡ true)
    (wf : (n : ℕ) (c : Clock) (a : A) → w2 (f n c a) ≡ write_number n ++ write_clock c (w a))
    (short : (s : List ℕ) → length s < 8 → r2 s ≡ ceases (length s))
    (fails : (n k : ℕ) (s : List ℕ) → clock_size s ≡ ceases k → r2 (write_number n ++ s) ≡ ceases (8 + k))
    (goes : (n : ℕ) (c : Clock) (v : List ℕ) → n < word_bound → all_below word_bound c ≡ true → r2 (write_number n ++ write_clock c v) ≡ then (9 + 9 * length c) (r v) (λ a. whole (f n c a)))
    (view : (v : List ℕ) → AllBytes v → View A w good r v) where
  from_clock : (n : ℕ) (s : List ℕ) → n < word_bound → ClockView s → View B w2 good2 r2 (write_number n ++ s)
  from_clock n s b (ended c v g k e) =
      subst (λ t. View B w2 good2 r2 t) (head_then n c v ∙ ap (λ t. write_number n ++ t) e)
      (prefixed (head n c) (f n c) (λ a h. ok n c a b g h) (λ a. wf n c a ∙ sym (head_then n c (w a)))
      (λ u. ap r2 (head_then n c u) ∙ goes n c u b g ∙ ap (λ k. then k (r u) (λ a. whole (f n c a))) (sym (length_head n c))) v (view v k))
  from_clock n s b (broken c t g e h) =
      let more : write_clock c (w a0) ≡ s ++ (t ++ w a0) = sym (append_assoc (write_counts c) (0 ∷ []) (w a0)) ∙ ap (λ x. x ++ w a0) e ∙ append_assoc s t (w a0) in
      cut (f n c a0) (t ++ w a0) (ok n c a0 b g g0) (wf n c a0 ∙ ap (λ x. write_number n ++ x) more) (fails n (length s) s h ∙ ap ceases (omega arith))
  from_clock n s b (marked c x q g e h) =
      bad (write_number n ++ write_counts c) x q (f n c a0) (0 ∷ w a0) (ok n c a0 b g g0) (ap (λ t. write_number n ++ t) e) (wf n c a0)
      (λ u.
      fails n (9 * length c + 0) (write_counts c ++ (x ∷ u)) (marker_size c x u h)
      ∙ ap ceases (omega (arith, length_counts c)))

  pub headed : (s : List ℕ) → AllBytes s → View B w2 good2 r2 s
  unfolding write_counts all_below
  headed s k =
      ⊎_elim
      (λ few.
      let num = number_cut s k few in
      cut (f num.0 [] a0) (num.1 ++ (0 ∷ w a0)) (ok num.0 [] a0 num.2 refl g0) (wf num.0 [] a0 ∙ ap (λ x. x ++ (0 ∷ w a0)) num.3 ∙ append_assoc s num.1 (0 ∷ w a0)) (short s few))
      (λ long.
      let num = number_only s k long in
      subst (λ t. View B w2 good2 r2 t) num.0 (from_clock (number_in s) (drop 8 s) num.1 (clock_view (length (drop 8 s)) (drop 8 s) (omega arith) (bytes_drop 8 s k))))
      (cases_lt (length s) 8)

-- NOTHING
pub nothing_view : (s : List ℕ) → View (Unit {0}) (λ _. []) (λ _. true) read_nothing s
nothing_view [] = exact tt refl refl refl
nothing_view (x ∷ q) = bad [] x q tt [] refl refl refl (λ u. let some : ltb 0 (length (x ∷ u)) ≡ true = lt-ltb _ _ (omega arith) in rw some)

-- A KEY
last_then : {A : Type 0} (b : Bool) (k : ℕ) (a : A) → cond b (ceases k) (whole a) ≡ then k (cond b (ceases 0) (whole tt)) (λ (_ : Unit {0}). whole a)
last_then true k a = ap ceases (omega arith)
last_then false k a = refl

pub key_goes : (n : ℕ) (s : List ℕ) → n < word_bound → read_key (write_number n ++ s) ≡ then 8 (read_nothing s) (λ _. whole n)
key_goes n s b =
    let enough : leb 8 (length (write_number n ++ s)) ≡ true = le-leb _ _ (omega arith) in
    let same : ltb 8 (length (write_number n ++ s)) ≡ ltb 0 (length s) = grind (arith, nat_tests) in
    rw (enough, same, number_back n s b) (last_then (ltb 0 (length s)) 8 n)

pub key_view : (s : List ℕ) → AllBytes s → View ℕ write_number (λ k. ltb k word_bound) read_key s
key_view s k =
    ⊎_elim
    (λ few.
    let num = number_cut s k few in
    let short : leb 8 (length s) ≡ false = lt-leb _ _ few in
    cut num.0 num.1 (lt-ltb num.0 word_bound num.2) num.3 (rw short))
    (λ long.
    let num = number_only s k long in
    let b = num.1 in
    subst (λ t. View ℕ write_number (λ n. ltb n word_bound) read_key t) num.0
    (prefixed (write_number (number_in s)) (λ _. number_in s) (λ _ _. lt-ltb (number_in s) word_bound b) (λ _. refl) (λ u. key_goes (number_in s) u b) (drop 8 s) (nothing_view (drop 8 s))))
    (cases_lt (length s) 8)

-- A BODY
pub body_back : (b : Body) → readable_body b ≡ true → read_body (write_body b) ≡ whole b
unfolding read_body
body_back (text n v) g =
    let enough : leb 9 (length (write_body (text n v))) ≡ true = le-leb _ _ (omega arith) in
    rw (enough, number_back n v (ltb-true n word_bound (and_parts (ltb n word_bound) (all_below byte_bound v) g).0))

-- another form
pub body_form : (x : ℕ) (s : List ℕ) → 0 < x → read_body (x ∷ s) ≡ ceases 0
unfolding read_body
body_form x s h = rw (ne_eqb x 0 (λ z. omega arith))

pub body_view : (s : List ℕ) → AllBytes s → View Body write_body readable_body read_body s
unfolding read_body all_below
body_view [] k = cut (text 0 []) (write_body (text 0 [])) refl refl refl
body_view (suc x ∷ s) k = bad [] (suc x) s (text 0 []) (write_body (text 0 [])) refl refl refl (λ u. body_form (suc x) u (omega arith))
body_view (zero ∷ s) k =
    let ks = other_bytes 0 s k in
    ⊎_elim
    (λ few.
    let num = number_cut s ks few in
    let short : leb 9 (length (0 ∷ s)) ≡ false = lt-leb _ _ (omega arith) in
    cut (text num.0 []) num.1 (and_from _ _ (lt-ltb num.0 word_bound num.2) refl) (ap (λ r. 0 ∷ r) num.3) (rw short))
    (λ long.
    let num = number_only s ks long in
    let enough : leb 9 (length (0 ∷ s)) ≡ true = le-leb _ _ (omega arith) in
    exact (text (number_in s) (drop 8 s)) (and_from _ _ (lt-ltb (number_in s) word_bound num.1) (bytes_drop 8 s ks)) (ap (λ r. 0 ∷ r) num.0) (rw enough))
    (cases_lt (length s) 8)

-- A PUT
abbrev put_from : ℕ → Clock → Body → Put Body
put_from n c b = record { from = n; seen = c; body = b }

abbrev pub readable_put : Put Body → Bool
readable_put p = readable_body p.body && (ltb p.from word_bound && all_below word_bound p.seen)

pub put_goes : (n : ℕ) (c : Clock) (v : List ℕ) → n < word_bound → all_below word_bound c ≡ true → read_put (write_number n ++ write_clock c v) ≡ then (9 + 9 * length c) (read_body v) (λ b. whole (put_from n c b))
unfolding read_put
put_goes n c v b g =
    let s : List ℕ = write_number n ++ write_clock c v in
    let enough : leb 8 (length s) ≡ true = le-leb _ _ (omega arith) in
    let place : 8 + (9 * length c + 1) ≡ 9 + 9 * length c = omega arith in
    rw (enough, size_clock c v)
    (λ i. then (place i) (read_body (drop_head n c v i)) (λ x. whole (put_from (number_back n (write_clock c v) b i) (clock_back c 0 v g (λ z. omega arith) i) x)))

pub put_back : (p : Put Body) → readable_put p ≡ true → read_put (write_put p) ≡ whole p
put_back p e =
    let both = and_parts (readable_body p.body) (ltb p.from word_bound && all_below word_bound p.seen) e in
    let front = and_parts (ltb p.from word_bound) (all_below word_bound p.seen) both.1 in
    put_goes p.from p.seen (write_body p.body) (ltb-true _ word_bound front.0) front.1 ∙ ap (λ r. then (9 + 9 * length p.seen) r (λ b. whole (put_from p.from p.seen b))) (body_back p.body both.0)

pub put_fails : (n k : ℕ) (s : List ℕ) → clock_size s ≡ ceases k → read_put (write_number n ++ s) ≡ ceases (8 + k)
unfolding read_put
put_fails n k s h = let enough : leb 8 (length (write_number n ++ s)) ≡ true = le-leb _ _ (omega arith) in rw (enough, h)

pub put_view : (s : List ℕ) → AllBytes s → View (Put Body) write_put readable_put read_put s
unfolding read_put all_below
put_view =
    headed put_from (text 0 []) refl (λ n c a b g h. and_from _ _ h (and_from _ _ (lt-ltb n word_bound b) g)) (λ n c a. refl)
    (λ s h. let short : leb 8 (length s) ≡ false = lt-leb _ _ h in rw short)
    put_fails
    put_goes body_view

-- WHAT A REPLICA TOLD
abbrev pub write_told : Told → List ℕ
write_told t = write_number t.who ++ write_clock t.clock []

abbrev pub readable_told : Told → Bool
readable_told t = ltb t.who word_bound && all_below word_bound t.clock

pub told_goes : (n : ℕ) (c : Clock) (v : List ℕ) → n < word_bound → all_below word_bound c ≡ true → read_told (write_number n ++ write_clock c v) ≡ then (9 + 9 * length c) (read_nothing v) (λ _. whole (record { who = n; clock = c }))
told_goes n c v b g =
    let s : List ℕ = write_number n ++ write_clock c v in
    let enough : leb 8 (length s) ≡ true = le-leb _ _ (omega arith) in
    let place : 8 + (9 * length c + 1) ≡ 9 + 9 * length c = omega arith in
    let long : length s ≡ 9 + 9 * length c + length v = ap length (sym (head_then n c v)) ∙ simp length-append (omega (arith, length_counts c)) in
    let same : ltb (8 + (9 * length c + 1)) (length s) ≡ ltb 0 (length v) = grind (arith, nat_tests) in
    rw (enough, size_clock c v, same)
    ((λ i. cond (ltb 0 (length v)) (ceases (place i)) (whole (record { who = number_back n (write_clock c v) b i; clock = clock_back c 0 v g (λ z. omega arith) i })))
    ∙ last_then (ltb 0 (length v)) (9 + 9 * length c) (record { who = n; clock = c }))

pub told_fails : (n k : ℕ) (s : List ℕ) → clock_size s ≡ ceases k → read_told (write_number n ++ s) ≡ ceases (8 + k)
told_fails n k s h = let enough : leb 8 (length (write_number n ++ s)) ≡ true = le-leb _ _ (omega arith) in rw (enough, h)

pub told_view : (s : List ℕ) → AllBytes s → View Told write_told readable_told read_told s
told_view =
    headed (λ n c _. record { who = n; clock = c }) tt refl (λ n c a b g h. and_from _ _ (lt-ltb n word_bound b) g) (λ n c a. refl)
    (λ s h. let short : leb 8 (length s) ≡ false = lt-leb _ _ h in rw short)
    told_fails
    told_goes (λ v k. nothing_view v)
