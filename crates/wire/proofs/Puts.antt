-- Answers and their bytes.
use Rattle.std.proofs.Common.{◌≡◌, ℕ, zero, suc, ◌+◌, ◌*◌, ◌<◌, ◌≤◌, true, false, ◌&&◌, eqb, ltb, leb, List, [], ◌∷◌, ◌++◌, length, get_or, take, drop, Some, None, Option, sym, refl, ap, ◌∙◌, subst, arith, length-append, length-drop}
use Rattle.std.proofs.lemmas.List.{append_assoc, take_at, drop_at}
use Rattle.std.proofs.lemmas.Bool.{le-leb, le-ltb, leb-true, ltb-true, and_parts, cond_both}
use Rattle.model.specs.Clock.{Clock}
use Rattle.model.specs.Put.{Put, Body}
use Rattle.model.specs.Replica.{came, refused, puts, value, clock_is}
use Rattle.model.specs.Program.{word_bound, readable}
use Rattle.wire.specs.Bytes.{write_number, write_counts, write_clock, write_put, write_item, write_puts}
use Rattle.wire.specs.Reading.{Part, whole, ceases, number_in, read_put}
use Rattle.wire.specs.Answers.{Next, end, more, then_more, next_put, put_before, go_on, puts_within, puts_in, puts_answer, value_answer, read_answer, readable_puts, readable_answer}
use Rattle.wire.specs.Theorems.{PartsReadBack, AnswerReadsBack}
use Rattle.wire.proofs.Numbers.{number_back}
use Rattle.wire.proofs.Clocks.{clock_back}
use Rattle.wire.proofs.Views.{length_counts, size_clock, body_back, put_back}

-- what follows a put is shorter
abbrev Shorter : ℕ → Option Next → Type 0
Shorter k (Some end) = Unit {0}
Shorter k (Some (more p t)) = length t < k
Shorter k None = Unit {0}

more_shorter : (k : ℕ) (t : List ℕ) (q : Part (Put Body)) → length t < k → Shorter k (then_more t q)
more_shorter k t (whole p) h = h
more_shorter k t (ceases n) h = tt

shorter : (s : List ℕ) → Shorter (length s) (next_put s)
unfolding next_put
shorter s =
    let r : List ℕ = drop 9 s in
    let n : ℕ = number_in (drop 1 s) in
    cond_both (eqb (get_or s 0 1) 0) _ _ (Shorter (length s)) (λ _. cond_both (eqb (length s) 1) _ _ (Shorter (length s)) (λ _. tt) (λ _. tt))
    (λ _.
    cond_both (leb 9 (length s) && eqb (get_or s 0 0) 1) _ _ (Shorter (length s))
    (λ h.
    let enough = leb-true 9 (length s) (and_parts (leb 9 (length s)) (eqb (get_or s 0 0) 1) h).0 in
    cond_both (leb n (length r)) _ _ (Shorter (length s)) (λ _. more_shorter (length s) (drop n r) (read_put (take n r)) (simp length-drop (omega arith))) (λ _. tt))
    (λ _. tt))

-- what follows the next put is shorter
pub rest_shorter : (s t : List ℕ) (p : Put Body) → Some (more p t) ≡ next_put s → length t < length s
rest_shorter s t p e = subst (Shorter (length s)) (sym e) (shorter s)

-- an end is one
pub next_end : next_put (0 ∷ []) ≡ Some end
unfolding next_put
next_end = refl

go_same : (f g : List ℕ → Option (List (Put Body))) (k : ℕ) → ((t : List ℕ) → length t < k → f t ≡ g t) → (o : Option Next) → Shorter k o → go_on f o ≡ go_on g o
go_same f g k same (Some end) h = refl
go_same f g k same (Some (more p t)) h = ap (put_before p) (same t h)
go_same f g k same None h = refl

fuel : (f g : ℕ) (s : List ℕ) → length s ≤ f → length s ≤ g → puts_within f s ≡ puts_within g s
unfolding puts_within next_put
fuel zero zero s a b = refl
fuel zero (suc g) [] a b = refl
fuel zero (suc g) (x ∷ s) a b = absurd (omega arith)
fuel (suc f) zero [] a b = refl
fuel (suc f) zero (x ∷ s) a b = absurd (omega arith)
fuel (suc f) (suc g) s a b = go_same (puts_within f) (puts_within g) (length s) (λ t h. fuel f g t (omega arith) (omega arith)) (next_put s) (shorter s)

-- puts are the next and those after it
pub puts_step : (s : List ℕ) → puts_in s ≡ go_on puts_in (next_put s)
unfolding puts_in puts_within next_put
puts_step [] = refl
puts_step (x ∷ s) = go_same (puts_within (length s)) puts_in (length (x ∷ s)) (λ t h. fuel (length s) (length t) t (omega arith) (omega arith)) (next_put (x ∷ s)) (shorter (x ∷ s))

-- none or one
module _ (s : List ℕ) where
  pub value_none : Some end ≡ next_put s → Some (value []) ≡ value_answer (puts_in s)
  value_none e = sym (ap value_answer (puts_step s ∙ ap (go_on puts_in) (sym e)))

  pub value_no : None ≡ next_put s → None ≡ value_answer (puts_in s)
  value_no e = sym (ap value_answer (puts_step s ∙ ap (go_on puts_in) (sym e)))

  module _ (p : Put Body) (t : List ℕ) (e : Some (more p t) ≡ next_put s) where
    after : (o : Option Next) → o ≡ next_put t → value_answer (puts_in s) ≡ value_answer (put_before p (go_on puts_in o))
    after o h = ap value_answer (puts_step s ∙ ap (go_on puts_in) (sym e) ∙ ap (put_before p) (puts_step t ∙ ap (go_on puts_in) (sym h)))

    pub value_one : Some end ≡ next_put t → Some (value (p ∷ [])) ≡ value_answer (puts_in s)
    value_one h = sym (after (Some end) h)

    pub value_broken : None ≡ next_put t → None ≡ value_answer (puts_in s)
    value_broken h = sym (after None h)

    two : (q : Put Body) (o : Option (List (Put Body))) → value_answer (put_before p (put_before q o)) ≡ None
    two q (Some ps) = refl
    two q None = refl

    pub value_two : (q : Put Body) (u : List ℕ) → Some (more q u) ≡ next_put t → None ≡ value_answer (puts_in s)
    value_two q u h = sym (after (Some (more q u)) h ∙ two q (puts_in u))

-- READ BACK
next_back : (p : Put Body) (t : List ℕ) → readable (came p) ≡ true → length (write_put p) < word_bound → next_put (write_item p ++ t) ≡ Some (more p t)
unfolding next_put readable
next_back p t e h =
    let w : List ℕ = write_put p in
    let n : ℕ = length w in
    let enough : leb 9 (length (1 ∷ (write_number n ++ (w ++ t)))) ≡ true = le-leb _ _ (omega arith) in
    let all : leb n (length (w ++ t)) ≡ true = le-leb _ _ (simp length-append (omega arith)) in
    rw (enough, number_back n (w ++ t) h, all, take_at w t n refl, drop_at w t n refl, put_back p e)

puts_back : (ps : List (Put Body)) → readable_puts ps ≡ true → puts_in (write_puts ps) ≡ Some ps
unfolding readable_puts write_puts next_put
puts_back [] e = puts_step (0 ∷ [])
puts_back (p ∷ ps) e =
    let both = and_parts (readable (came p) && ltb (length (write_put p)) word_bound) (readable_puts ps) e in
    let one = and_parts (readable (came p)) (ltb (length (write_put p)) word_bound) both.0 in
    puts_step _ ∙ ap (go_on puts_in) (next_back p (write_puts ps) one.0 (ltb-true _ word_bound one.1)) ∙ ap (put_before p) (puts_back ps both.1)

one_at_most : (ps : List (Put Body)) → leb (length ps) 1 ≡ true → value_answer (Some ps) ≡ Some (value ps)
one_at_most [] e = refl
one_at_most (p ∷ []) e = refl
one_at_most (p ∷ q ∷ ps) e = absurd (omega (arith, leb-true _ 1 e))

pub answer_reads_back : AnswerReadsBack
unfolding readable_answer read_answer
answer_reads_back (refused n k) e =
    let both = and_parts (ltb n word_bound) (ltb k word_bound) e in
    rw (number_back n (write_number k) (ltb-true n word_bound both.0), number_back k [] (ltb-true k word_bound both.1))
answer_reads_back (puts ps) e = ap puts_answer (puts_back ps e)
answer_reads_back (value ps) e = let both = and_parts (leb (length ps) 1) (readable_puts ps) e in ap value_answer (puts_back ps both.1) ∙ one_at_most ps both.0
answer_reads_back (clock_is c) e =
    let long : length (write_clock c []) ≡ 9 * length c + 1 = simp length-append (omega (arith, length_counts c)) in
    let none_left : ltb (9 * length c + 1) (length (write_clock c [])) ≡ false = le-ltb _ _ (omega arith) in
    rw (size_clock c [], none_left) (ap (λ d. Some (clock_is d)) (clock_back c 0 [] e (λ z. omega arith)))

-- EACH PART
after_clock : (c : Clock) (s : List ℕ) → drop (9 * length c + 1) (write_clock c s) ≡ s
after_clock c s =
    let long : length (write_counts c ++ (0 ∷ [])) ≡ 9 * length c + 1 = simp length-append (omega (arith, length_counts c)) in
    ap (drop (9 * length c + 1)) (sym (append_assoc (write_counts c) (0 ∷ []) s)) ∙ drop_at (write_counts c ++ (0 ∷ [])) s _ long

pub parts_read_back : PartsReadBack
unfolding readable
parts_read_back =
    record {
      number = λ n s h. (number_back n s h, refl);
      clock = λ c s h. (clock_back c 0 s h (λ z. omega arith), size_clock c s, after_clock c s);
      body = body_back;
      put = put_back;
      item = next_back;
    }
