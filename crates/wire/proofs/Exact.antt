-- Bytes that are read as an answer are those that it is written as.
use Rattle.std.proofs.Common.{◌≡◌, ℕ, zero, suc, ◌+◌, ◌*◌, ◌<◌, ◌≤◌, Bool, true, false, cond, ◌&&◌, eqb, ltb, leb, List, [], ◌∷◌, ◌++◌, length, take, drop, Some, None, Option, sym, refl, ap, ◌∙◌, subst, arith, length-drop}
use Rattle.std.proofs.lemmas.List.{take-append-drop, length-take-le, drop_all, nil_from_length}
use Rattle.std.proofs.lemmas.Bool.{leb-true, ltb-false, eqb-true, ne_eqb, and_parts, cond_both}
use Rattle.model.specs.Put.{Put, Body}
use Rattle.model.specs.Replica.{Answer, refused, puts, value, clock_is}
use Rattle.wire.specs.Bytes.{write_number, write_clock, write_put, write_item, write_puts, write_answer}
use Rattle.wire.specs.Reading.{Part, whole, ceases, number_in, clock_in, clock_size, read_put}
use Rattle.wire.specs.Answers.{Next, end, more, then_more, next_put, put_before, go_on, puts_within, puts_in, puts_answer, value_answer, clock_answer, refused_answer, read_answer}
use Rattle.wire.specs.Theorems.{AllBytes, AnswerOnlyItsBytes, AnswerRight}
use Rattle.wire.proofs.Puts.{answer_reads_back}
use Rattle.wire.proofs.Numbers.{number_only, other_bytes, bytes_drop, bytes_take}
use Rattle.wire.proofs.Clocks.{clock_back}
use Rattle.wire.proofs.Views.{marker_size, View, exact, cut, bad, ClockView, ended, broken, marked, clock_view, size_clock, put_view, length_clock}

-- what is read as a part is what is written of it
ceased : {A : Type 0} (p : Part A) (a : A) (k : ℕ) → p ≡ whole a → p ≡ ceases k → ⊥
ceased p a k e f = let z : ◌≡◌ {A = ℕ} 0 1 = cc in omega arith

put_by : (s : List ℕ) (g : Put Body → Bool) → View (Put Body) write_put g read_put s → (p : Put Body) → read_put s ≡ whole p → write_put p ≡ s
put_by s g (exact q h e r) p i = let same : q ≡ p = cc in ap write_put (sym same) ∙ e
put_by s g (cut q t h e r) p i = absurd (ceased (read_put s) p (length s) i r)
put_by s g (bad f x u q t h e w r) p i = absurd (ceased (read_put s) p (length f) i (ap read_put (sym e) ∙ r u))

put_only : (s : List ℕ) → AllBytes s → (p : Put Body) → read_put s ≡ whole p → write_put p ≡ s
put_only s k p e = put_by s _ (put_view s k) p e

-- what comes next of some puts
abbrev OnlyNext : List ℕ → Option Next → Type 0
OnlyNext s (Some end) = 0 ∷ [] ≡ s
OnlyNext s (Some (more p t)) = (write_item p ++ t ≡ s) × AllBytes t
OnlyNext s None = Unit {0}

framed_only : (s : List ℕ) (n : ℕ) → AllBytes s → 8 ≤ length s → n ≡ number_in s → n ≤ length (drop 8 s) → (q : Part (Put Body)) → read_put (take n (drop 8 s)) ≡ q → OnlyNext (1 ∷ s) (then_more (drop n (drop 8 s)) q)
framed_only s n k h e l (ceases j) r = tt
framed_only s n k h e l (whole p) r =
    let rest : List ℕ = drop 8 s in
    let w : write_put p ≡ take n rest = put_only (take n rest) (bytes_take n rest (bytes_drop 8 s k)) p r in
    let long : length (write_put p) ≡ number_in s = ap length w ∙ length-take-le n rest l ∙ e in
    let all : write_put p ++ drop n rest ≡ rest = ap (λ x. x ++ drop n rest) w ∙ take-append-drop n rest in
    ((λ i. 1 ∷ (write_number (long i) ++ all i)) ∙ ap (λ x. 1 ∷ x) (number_only s k h).0, bytes_drop n rest (bytes_drop 8 s k))

and_no : {A : Type 0} (b : Bool) (x y : A) → cond (b && false) x y ≡ y
and_no true x y = refl
and_no false x y = refl

other_next : (x : ℕ) (s : List ℕ) → 1 < x → OnlyNext (x ∷ s) (next_put (x ∷ s))
unfolding next_put
other_next x s h =
    let a : eqb x 0 ≡ false = ne_eqb x 0 (λ z. omega arith) in
    let b : eqb x 1 ≡ false = ne_eqb x 1 (λ z. omega arith) in
    let none : next_put (x ∷ s) ≡ None = rw (a, b) (and_no (leb 9 (length (x ∷ s))) _ None) in
    subst (OnlyNext (x ∷ s)) (sym none) tt

next_only : (s : List ℕ) → AllBytes s → OnlyNext s (next_put s)
unfolding next_put
next_only [] k = tt
next_only (zero ∷ s) k = cond_both (eqb (length (0 ∷ s)) 1) _ _ (OnlyNext (0 ∷ s)) (λ h. let none : s ≡ [] = nil_from_length s (omega (arith, eqb-true (length (0 ∷ s)) 1 h)) in ap (λ x. 0 ∷ x) (sym none)) (λ _. tt)
next_only (suc zero ∷ s) k =
    cond_both (leb 9 (length (1 ∷ s)) && true) _ _ (OnlyNext (1 ∷ s))
    (λ h.
    let enough = leb-true 9 (length (1 ∷ s)) (and_parts (leb 9 (length (1 ∷ s))) true h).0 in
    cond_both (leb (number_in s) (length (drop 8 s))) _ _ (OnlyNext (1 ∷ s))
    (λ l. framed_only s (number_in s) (other_bytes 1 s k) (omega arith) refl (leb-true (number_in s) (length (drop 8 s)) l) (read_put (take (number_in s) (drop 8 s))) refl)
    (λ _. tt))
    (λ _. tt)
next_only (suc (suc x) ∷ s) k = other_next (suc (suc x)) s (omega arith)

-- PUTS, one after the other
no_some : {A : Type 0} (a : A) → None ≡ Some a → ⊥
no_some a e = let z : ◌≡◌ {A = ℕ} 0 1 = cc in omega arith

with_put : (p : Put Body) (s t : List ℕ) (o : Option (List (Put Body))) → write_item p ++ t ≡ s → ((qs : List (Put Body)) → o ≡ Some qs → write_puts qs ≡ t) → (ps : List (Put Body)) → put_before p o ≡ Some ps → write_puts ps ≡ s
unfolding write_puts
with_put p s t None h ih ps e = absurd (no_some ps e)
with_put p s t (Some qs) h ih ps e = let same : p ∷ qs ≡ ps = cc in ap write_puts (sym same) ∙ ap (λ x. write_item p ++ x) (ih qs refl) ∙ h

after_next : (g : List ℕ → Option (List (Put Body))) (s : List ℕ) (o : Option Next) → OnlyNext s o → ((t : List ℕ) → AllBytes t → (qs : List (Put Body)) → g t ≡ Some qs → write_puts qs ≡ t) → (ps : List (Put Body)) → go_on g o ≡ Some ps → write_puts ps ≡ s
unfolding write_puts
after_next g s None h ih ps e = absurd (no_some ps e)
after_next g s (Some end) h ih ps e = let same : [] ≡ ps = cc in ap write_puts (sym same) ∙ h
after_next g s (Some (more p t)) h ih ps e = with_put p s t (g t) h.0 (ih t h.1) ps e

puts_only : (n : ℕ) (s : List ℕ) → AllBytes s → (ps : List (Put Body)) → puts_within n s ≡ Some ps → write_puts ps ≡ s
unfolding puts_within
puts_only zero s k ps e = absurd (no_some ps e)
puts_only (suc n) s k ps e = after_next (puts_within n) s (next_put s) (next_only s k) (puts_only n) ps e

puts_all : (s : List ℕ) → AllBytes s → (ps : List (Put Body)) → puts_in s ≡ Some ps → write_puts ps ≡ s
unfolding puts_in
puts_all s k ps e = puts_only (length s) s k ps e

-- EACH ANSWER
module _ (s : List ℕ) (k : AllBytes s) (a : Answer) where
  refused_only : refused_answer s ≡ Some a → write_answer a ≡ 0 ∷ s
  refused_only =
      cond_both (eqb (length s) 16) (Some (refused (number_in s) (number_in (drop 8 s)))) None (λ o. o ≡ Some a → write_answer a ≡ 0 ∷ s)
      (λ h e.
      let long = eqb-true (length s) 16 h in
      let same : refused (number_in s) (number_in (drop 8 s)) ≡ a = cc in
      let last : drop 8 (drop 8 s) ≡ [] = drop_all 8 (drop 8 s) (simp length-drop (omega arith)) in
      let second : write_number (number_in (drop 8 s)) ≡ drop 8 s = ap (λ x. write_number (number_in (drop 8 s)) ++ x) (sym last) ∙ (number_only (drop 8 s) (bytes_drop 8 s k) (simp length-drop (omega arith))).0 in
      ap write_answer (sym same) ∙ ap (λ x. 0 ∷ (write_number (number_in s) ++ x)) second ∙ ap (λ x. 0 ∷ x) (number_only s k (omega arith)).0)
      (λ _ e. absurd (no_some a e))

  puts_answer_only : (o : Option (List (Put Body))) → ((ps : List (Put Body)) → o ≡ Some ps → write_puts ps ≡ s) → puts_answer o ≡ Some a → write_answer a ≡ 1 ∷ s
  puts_answer_only None ih e = absurd (no_some a e)
  puts_answer_only (Some ps) ih e = let same : puts ps ≡ a = cc in ap write_answer (sym same) ∙ ap (λ x. 1 ∷ x) (ih ps refl)

  value_answer_only : (o : Option (List (Put Body))) → ((ps : List (Put Body)) → o ≡ Some ps → write_puts ps ≡ s) → value_answer o ≡ Some a → write_answer a ≡ 2 ∷ s
  value_answer_only None ih e = absurd (no_some a e)
  value_answer_only (Some []) ih e = let same : value [] ≡ a = cc in ap write_answer (sym same) ∙ ap (λ x. 2 ∷ x) (ih [] refl)
  value_answer_only (Some (p ∷ [])) ih e = let same : value (p ∷ []) ≡ a = cc in ap write_answer (sym same) ∙ ap (λ x. 2 ∷ x) (ih (p ∷ []) refl)
  value_answer_only (Some (p ∷ q ∷ ps)) ih e = absurd (no_some a e)

  no_clock : (n : ℕ) → clock_size s ≡ ceases n → clock_answer s (clock_size s) ≡ Some a → ⊥
  no_clock n h e = no_some a (ap (clock_answer s) (sym h) ∙ e)

  clock_by : ClockView s → clock_answer s (clock_size s) ≡ Some a → write_answer a ≡ 3 ∷ s
  clock_by (ended c v g b h) e =
      let m : ℕ = 9 * length c + 1 in
      let size : clock_size s ≡ whole m = ap clock_size (sym h) ∙ size_clock c v in
      cond_both (ltb m (length s)) _ _ (λ o. o ≡ Some a → write_answer a ≡ 3 ∷ s) (λ _ f. absurd (no_some a f))
      (λ l f.
      let most = ltb-false m (length s) l in
      let long : length s ≡ 9 * length c + suc (length v) = ap length (sym h) ∙ length_clock c v in
      let none : v ≡ [] = nil_from_length v (omega arith) in
      let same : clock_is (clock_in s) ≡ a = cc in
      let clock : clock_in s ≡ c = ap clock_in (sym h) ∙ clock_back c 0 v g (λ z. omega arith) in
      ap write_answer (sym same) ∙ ap (λ x. 3 ∷ write_clock x []) clock ∙ ap (λ x. 3 ∷ write_clock c x) (sym none) ∙ ap (λ x. 3 ∷ x) h)
      (ap (clock_answer s) (sym size) ∙ e)
  clock_by (broken c t g h n) e = absurd (no_clock (length s) n e)
  clock_by (marked c x q g h b) e = absurd (no_clock (9 * length c + 0) (ap clock_size (sym h) ∙ marker_size c x q b) e)

  other_answer : (t : ℕ) → 3 < t → read_answer (t ∷ s) ≡ None
  unfolding read_answer
  other_answer t h = rw (ne_eqb t 0 (λ z. omega arith), ne_eqb t 1 (λ z. omega arith), ne_eqb t 2 (λ z. omega arith), ne_eqb t 3 (λ z. omega arith))

pub answer_only_its_bytes : AnswerOnlyItsBytes
unfolding read_answer
answer_only_its_bytes [] a k e = absurd (no_some a e)
answer_only_its_bytes (zero ∷ s) a k e = refused_only s (other_bytes 0 s k) a e
answer_only_its_bytes (suc zero ∷ s) a k e = let ks = other_bytes 1 s k in puts_answer_only s ks a (puts_in s) (puts_all s ks) e
answer_only_its_bytes (suc (suc zero) ∷ s) a k e = let ks = other_bytes 2 s k in value_answer_only s ks a (puts_in s) (puts_all s ks) e
answer_only_its_bytes (suc (suc (suc zero)) ∷ s) a k e = let ks = other_bytes 3 s k in clock_by s ks a (clock_view (length s) s (omega arith) ks) e
answer_only_its_bytes (suc (suc (suc (suc t))) ∷ s) a k e = absurd (no_some a (sym (other_answer s (other_bytes _ s k) a (suc (suc (suc (suc t)))) (omega arith)) ∙ e))

-- OF ONE READING
pub answer_right : (s : List ℕ) (x : Option Answer) → AllBytes s → x ≡ read_answer s → AnswerRight s x
answer_right s x k h = record { back = λ a ok w. h ∙ ap read_answer w ∙ answer_reads_back a ok; only = λ a e. answer_only_its_bytes s a k (sym h ∙ e) }
