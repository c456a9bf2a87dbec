-- Events and their bytes.
use Rattle.std.proofs.Common.{◌≡◌, ℕ, zero, suc, ◌+◌, ◌-◌, ◌*◌, ◌<◌, ◌≤◌, Bool, true, false, ◌&&◌, ltb, leb, List, [], ◌∷◌, ◌++◌, length, get_or, take, drop, replicate, sym, refl, ap, ◌∙◌, subst, ⊎_elim, append_assoc, arith, length-append}
use lib.ListN.{length-replicate}
use Rattle.std.proofs.lemmas.List.{take_all, take_at, take-append-drop, get_or-replicate, drop-replicate}
use Rattle.std.proofs.lemmas.Bool.{lt-ltb, lt-leb, le-leb, le-ltb, and_parts, ltb-true, cases_lt, both_ways}
use Rattle.model.specs.Clock.{Clock}
use Rattle.model.specs.Replica.{Event, put, get, came, has, tell, garbled, legible}
use Rattle.model.specs.Program.{word_bound, all_below, readable}
use Rattle.wire.specs.Bytes.{write_number, write_counts, write_body, write_put, write_event}
use Rattle.wire.specs.Reading.{Part, whole, ceases, mapped, then, span, clock_size, read_body, read_put, read_key, read_told, read_nothing, has_told, read_parts, read_event, event_in, read}
use Rattle.wire.specs.Theorems.{AllBytes, EventReadsBack, OnlyItsBytes, ReadIsReadable, Begins, PlaceRight, closed, counted_so_far, KindsOfEnd, ReadsRight}
use Rattle.wire.proofs.Numbers.{other_bytes}
use Rattle.wire.proofs.Views.{marker_size, View, exact, cut, bad, prefixed, length_counts, nothing_view, key_goes, key_view, body_back, body_form, body_view, put_goes, put_back, put_fails, put_view, told_goes, told_fails, told_view}

-- BY ITS NUMBER
known : (t : ℕ) (s : List ℕ) → t < 5 → read_event (t ∷ s) ≡ then 1 (read_parts t s) whole
unfolding read_event
known t s h =
    let some : ltb 0 (length (t ∷ s)) ≡ true = lt-ltb _ _ (omega arith) in
    rw (some, lt-ltb t 5 h)

unknown : (t : ℕ) (s : List ℕ) → 5 ≤ t → read_event (t ∷ s) ≡ ceases 0
unfolding read_event
unknown t s h =
    let some : ltb 0 (length (t ∷ s)) ≡ true = lt-ltb _ _ (omega arith) in
    rw (some, le-ltb t 5 h)

then_mapped : {A B : Type 0} (f : A → B) (n : ℕ) (p : Part A) → then n (mapped f p) whole ≡ then n p (λ a. whole (f a))
then_mapped f n (whole a) = refl
then_mapped f n (ceases k) = refl

put_reads : (s : List ℕ) → read_event (0 ∷ s) ≡ then 1 (read_body s) (λ b. whole (put b))
unfolding read_parts
put_reads s = known 0 s (omega arith) ∙ then_mapped put 1 (read_body s)

get_reads : (s : List ℕ) → read_event (1 ∷ s) ≡ then 1 (read_key s) (λ k. whole (get k))
unfolding read_parts
get_reads s = known 1 s (omega arith) ∙ then_mapped get 1 (read_key s)

came_reads : (s : List ℕ) → read_event (2 ∷ s) ≡ then 1 (read_put s) (λ p. whole (came p))
unfolding read_parts
came_reads s = known 2 s (omega arith) ∙ then_mapped came 1 (read_put s)

has_reads : (s : List ℕ) → read_event (3 ∷ s) ≡ then 1 (read_told s) (λ t. whole (has_told t))
unfolding read_parts
has_reads s = known 3 s (omega arith) ∙ then_mapped has_told 1 (read_told s)

tell_reads : (s : List ℕ) → read_event (4 ∷ s) ≡ then 1 (read_nothing s) (λ _. whole tell)
unfolding read_parts
tell_reads s = known 4 s (omega arith) ∙ then_mapped (λ _. tell) 1 (read_nothing s)

-- READ BACK
abbrev ones : ℕ → List ℕ
ones n = replicate n 1

-- a clock of 1s ends nowhere
never_ends : (n : ℕ) → clock_size (ones n) ≡ ceases n
unfolding clock_size
never_ends n =
    let long : length (ones n) ≡ n = length-replicate n 1 in
    ⊎_elim
    (λ h.
    let p : ltb (span (ones n)) (length (ones n)) ≡ true = lt-ltb _ _ (omega arith) in
    let q : get_or (ones n) (span (ones n)) 0 ≡ 1 = get_or-replicate n (span (ones n)) 1 0 h in
    rw (p, q) (ap ceases long))
    (λ h. let p : ltb (span (ones n)) (length (ones n)) ≡ false = le-ltb _ _ (omega arith) in rw p (ap ceases long))
    (cases_lt (span (ones n)) n)

endless_put : (n : ℕ) → read_put (ones n) ≡ ceases n
unfolding read_put
endless_put n =
    let long : length (ones n) ≡ n = length-replicate n 1 in
    ⊎_elim
    (λ (h : n < 8). let few : leb 8 (length (ones n)) ≡ false = lt-leb _ _ (omega arith) in rw few (ap ceases long))
    (λ (h : 8 ≤ n).
    let enough : leb 8 (length (ones n)) ≡ true = le-leb _ _ (omega arith) in
    let whole_length : 8 + (n - 8) ≡ n = omega arith in
    rw (enough, drop-replicate {X = ℕ} 8 n 1, never_ends (n - 8)) (ap ceases whole_length))
    (cases_lt n 8)

no_bytes : read_event [] ≡ ceases 0
unfolding read_event
no_bytes = refl

pub reads_back : EventReadsBack
unfolding readable
reads_back (put b) e = ap event_in (put_reads (write_body b) ∙ ap (λ p. then 1 p (λ x. whole (put x))) (body_back b e))
reads_back (get k) e = ap event_in (get_reads (write_number k) ∙ ap (λ p. then 1 p (λ x. whole (get x))) (key_goes k [] (ltb-true k word_bound e)))
reads_back (came p) e = ap event_in (came_reads (write_put p) ∙ ap (λ r. then 1 r (λ x. whole (came x))) (put_back p e))
reads_back (has j c) e =
    let both = and_parts (ltb j word_bound) (all_below word_bound c) e in
    ap event_in (has_reads _ ∙ ap (λ r. then 1 r (λ t. whole (has_told t))) (told_goes j c [] (ltb-true j word_bound both.0) both.1))
reads_back tell e = ap event_in (tell_reads [])
reads_back (garbled zero) e = ap event_in no_bytes
reads_back (garbled (suc n)) e = ap event_in (came_reads (ones n) ∙ ap (λ r. then 1 r (λ x. whole (came x))) (endless_put n)) ∙ ap garbled (omega arith)

-- WHAT BYTES ARE
abbrev carried : Event → Bool
carried e = legible e && readable e

event_view : (s : List ℕ) → AllBytes s → View Event write_event carried read_event s
unfolding readable legible
event_view [] k = cut tell (4 ∷ []) refl refl no_bytes
event_view (zero ∷ s) k = prefixed (0 ∷ []) put (λ b g. g) (λ b. refl) put_reads s (body_view s (other_bytes 0 s k))
event_view (suc zero ∷ s) k = prefixed (1 ∷ []) get (λ n g. g) (λ n. refl) get_reads s (key_view s (other_bytes 1 s k))
event_view (suc (suc zero) ∷ s) k = prefixed (2 ∷ []) came (λ p g. g) (λ p. refl) came_reads s (put_view s (other_bytes 2 s k))
event_view (suc (suc (suc zero)) ∷ s) k = prefixed (3 ∷ []) has_told (λ t g. g) (λ t. refl) has_reads s (told_view s (other_bytes 3 s k))
event_view (suc (suc (suc (suc zero))) ∷ s) k = prefixed (4 ∷ []) (λ _. tell) (λ _ g. refl) (λ _. refl) tell_reads s (nothing_view s)
event_view (suc (suc (suc (suc (suc t)))) ∷ s) k = bad [] (suc (suc (suc (suc (suc t))))) s tell (4 ∷ []) refl refl refl (λ u. unknown _ u (omega arith))

abbrev EventView : List ℕ → Type 0
EventView s = View Event write_event carried read_event s

-- a garbled event is none
none_legible : (n : ℕ) (e : Event) → e ≡ garbled n → legible e ≡ true → ⊥
unfolding legible
none_legible n e h l = both_ways (legible e) (ap legible h) l

only_by : (s : List ℕ) → EventView s → legible (read s) ≡ true → write_event (read s) ≡ s
only_by s (exact e g w r) l = ap write_event (ap event_in r) ∙ w
only_by s (cut e t g w r) l = absurd (none_legible (length s) (read s) (ap event_in r) l)
only_by s (bad p x q e t g h w r) l = absurd (none_legible (length p) (read s) (ap read (sym h) ∙ ap event_in (r q)) l)

pub only_its_bytes : OnlyItsBytes
only_its_bytes s k = only_by s (event_view s k)

garbled_readable : (s : List ℕ) (n : ℕ) → read s ≡ garbled n → n < word_bound → readable (read s) ≡ true
unfolding readable
garbled_readable s n e h = ap readable e ∙ lt-ltb n word_bound h

readable_by : (s : List ℕ) → EventView s → length s < word_bound → readable (read s) ≡ true
readable_by s (exact e g w r) h = ap readable (ap event_in r) ∙ (and_parts (legible e) (readable e) g).1
readable_by s (cut e t g w r) h = garbled_readable s (length s) (ap event_in r) h
readable_by s (bad p x q e t g a w r) h =
    garbled_readable s (length p) (ap read (sym a) ∙ ap event_in (r q)) (omega (arith, simp length-append at (ap length a)))

pub read_is_readable : ReadIsReadable
read_is_readable s k = readable_by s (event_view s k)

begun : (s t : List ℕ) (e : Event) → carried e ≡ true → write_event e ≡ s ++ t → Begins s
begun s t e g w = let both = and_parts (legible e) (readable e) g in record { event = e; is_event = both.0; carried = both.1; more = t; bytes = w }

-- the place, as it is read
place_of : (m n : ℕ) (e : Event) → e ≡ garbled m → e ≡ garbled n → m ≡ n
place_of m n e a b = cc

-- bytes that cease to be an event at x begin none with it
not_begun : (p : List ℕ) (x : ℕ) → ((u : List ℕ) → read_event (p ++ (x ∷ u)) ≡ ceases (length p)) → (s : List ℕ) → s ≡ p ++ (x ∷ []) → Begins s → ⊥
not_begun p x r s e b =
    let all : write_event b.event ≡ p ++ (x ∷ b.more) = b.bytes ∙ ap (λ y. y ++ b.more) e ∙ append_assoc p (x ∷ []) b.more in
    none_legible (length p) b.event (sym (reads_back b.event b.carried) ∙ ap read all ∙ ap event_in (r b.more)) b.is_event

place_by : (s : List ℕ) → EventView s → (n : ℕ) → read s ≡ garbled n → (n ≤ length s) × Begins (take n s) × (n < length s → Begins (take (suc n) s) → ⊥)
place_by s (exact e g w r) n h = absurd (none_legible n (read s) h (ap legible (ap event_in r) ∙ (and_parts (legible e) (readable e) g).0))
place_by s (cut e t g w r) n h =
    let m : length s ≡ n = place_of (length s) n (read s) (ap event_in r) h in
    let all : take n s ≡ s = take_all n s (omega arith) in
    (omega arith, subst Begins (sym all) (begun s t e g w), λ less. absurd (omega arith))
place_by s (bad p x q e t g a w r) n h =
    let m : length p ≡ n = place_of (length p) n (read s) (ap read (sym a) ∙ ap event_in (r q)) h in
    let long : length p + suc (length q) ≡ length s = sym (length-append p (x ∷ q)) ∙ ap length a in
    let front : take n s ≡ p = ap (take n) (sym a) ∙ take_at p (x ∷ q) n m in
    let with_x : take (suc n) s ≡ p ++ (x ∷ []) = ap (take (suc n)) (sym a ∙ sym (append_assoc p (x ∷ []) q)) ∙ take_at (p ++ (x ∷ [])) q (suc n) (simp length-append (omega arith)) in
    (omega arith, subst Begins (sym front) (begun p t e g w), λ less b. not_begun p x r (take (suc n) s) with_x b)

pub place_right : PlaceRight
place_right s n k = place_by s (event_view s k) n

pub reads_right : (s : List ℕ) (x : Event) → AllBytes s → length s < word_bound → x ≡ read s → ReadsRight s x
reads_right s x k l h =
    record {
      back = λ e ok w. h ∙ ap read w ∙ reads_back e ok;
      carried = ap readable h ∙ read_is_readable s k l;
      only = λ g. ap write_event h ∙ only_its_bytes s k (ap legible (sym h) ∙ g);
      place = λ n g. place_right s n k (sym h ∙ g);
    }

-- EACH KIND OF END
other_marker_came : (n : ℕ) (c : Clock) (x : ℕ) (s : List ℕ) → 1 < x → read (counted_so_far 2 n c (x ∷ s)) ≡ garbled (9 + 9 * length c)
other_marker_came n c x s h =
    ap event_in (came_reads _ ∙ ap (λ p. then 1 p (λ y. whole (came y))) (put_fails n (9 * length c + 0) _ (marker_size c x s h))) ∙ ap garbled (omega arith)

other_marker_has : (n : ℕ) (c : Clock) (x : ℕ) (s : List ℕ) → 1 < x → read (counted_so_far 3 n c (x ∷ s)) ≡ garbled (9 + 9 * length c)
other_marker_has n c x s h =
    ap event_in (has_reads _ ∙ ap (λ p. then 1 p (λ y. whole (has_told y))) (told_fails n (9 * length c + 0) _ (marker_size c x s h))) ∙ ap garbled (omega arith)

other_form_came : (n : ℕ) (c : Clock) (x : ℕ) (s : List ℕ) → n < word_bound → all_below word_bound c ≡ true → 0 < x → read (counted_so_far 2 n c (0 ∷ (x ∷ s))) ≡ garbled (10 + 9 * length c)
other_form_came n c x s b g h =
    ap event_in
    (came_reads _
    ∙ ap (λ p. then 1 p (λ y. whole (came y))) (put_goes n c (x ∷ s) b g)
    ∙ ap (λ r. then 1 (then (9 + 9 * length c) r (λ y. whole (record { from = n; seen = c; body = y }))) (λ y. whole (came y))) (body_form x s h))
    ∙ ap garbled (omega arith)

something : (x : ℕ) (s : List ℕ) → read_nothing (x ∷ s) ≡ ceases 0
something x s = let some : ltb 0 (length (x ∷ s)) ≡ true = lt-ltb _ _ (omega arith) in rw some

left_over : (e : Event) (x : ℕ) (s : List ℕ) → readable e ≡ true → closed e ≡ true → read (write_event e ++ (x ∷ s)) ≡ garbled (length (write_event e))
unfolding readable closed
left_over (put b) x s e c = absurd (both_ways false refl c)
left_over (get k) x s e c = ap event_in (get_reads _ ∙ ap (λ p. then 1 p (λ y. whole (get y))) (key_goes k (x ∷ s) (ltb-true k word_bound e) ∙ ap (λ p. then 8 p (λ _. whole k)) (something x s)))
left_over (came p) x s e c = absurd (both_ways false refl c)
left_over (has j d) x s e c =
    let both = and_parts (ltb j word_bound) (all_below word_bound d) e in
    ap read (ap (λ t. 3 ∷ (write_number j ++ t)) (append_assoc (write_counts d) (0 ∷ []) (x ∷ s)))
    ∙ ap event_in (has_reads _ ∙ ap (λ p. then 1 p (λ y. whole (has_told y))) (told_goes j d (x ∷ s) (ltb-true j word_bound both.0) both.1 ∙ ap (λ p. then (9 + 9 * length d) p (λ _. whole (record { who = j; clock = d }))) (something x s)))
    ∙ ap garbled (simp length-append (omega (arith, length_counts d)))
left_over tell x s e c = ap event_in (tell_reads (x ∷ s) ∙ ap (λ p. then 1 p (λ _. whole tell)) (something x s))
left_over (garbled n) x s e c = absurd (both_ways false refl c)

garbled_is : (e : Event) → legible e ≡ false → (n : ℕ) × (e ≡ garbled n)
unfolding legible
garbled_is (put b) l = absurd (both_ways true l refl)
garbled_is (get k) l = absurd (both_ways true l refl)
garbled_is (came p) l = absurd (both_ways true l refl)
garbled_is (has j c) l = absurd (both_ways true l refl)
garbled_is tell l = absurd (both_ways true l refl)
garbled_is (garbled n) l = (n, refl)

-- a beginning of bytes that begin an event
begins_front : (s : List ℕ) (n : ℕ) → Begins s → Begins (take n s)
begins_front s n b =
    record {
      event = b.event;
      is_event = b.is_event;
      carried = b.carried;
      more = drop n s ++ b.more;
      bytes = b.bytes ∙ ap (λ t. t ++ b.more) (sym (take-append-drop n s)) ∙ append_assoc (take n s) (drop n s) b.more;
    }

cut_short : (s : List ℕ) → AllBytes s → Begins s → legible (read s) ≡ false → read s ≡ garbled (length s)
cut_short s k b l =
    let is = garbled_is (read s) l in
    let right = place_right s is.0 k is.1 in
    ⊎_elim (λ less. absurd (right.2 less (begins_front s (suc is.0) b))) (λ (more : length s ≤ is.0). let same : is.0 ≡ length s = omega (arith, right.0) in is.1 ∙ ap garbled same) (cases_lt is.0 (length s))

pub kinds_of_end : KindsOfEnd
kinds_of_end =
    record {
      no_bytes = ap event_in no_bytes;
      unknown_number = λ t s h. ap event_in (unknown t s h);
      other_form_put = λ x s h. ap event_in (put_reads (x ∷ s) ∙ ap (λ p. then 1 p (λ b. whole (put b))) (body_form x s h)) ∙ ap garbled (omega arith);
      other_form_came = other_form_came;
      other_marker_came = other_marker_came;
      other_marker_has = other_marker_has;
      left_over = left_over;
      cut_short = cut_short;
    }
