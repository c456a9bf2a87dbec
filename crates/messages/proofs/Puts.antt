-- Puts read one after the other.
use Rattle.std.proofs.Common.{◌≡◌, ℕ, ◌<◌, ◌&&◌, eqb, leb, List, [], ◌∷◌, ◌++◌, length, get_or, take, drop, Some, None, Option, sym, refl, ap, ◌∙◌, subst, arith, length-drop}
use Rattle.std.proofs.lemmas.Bool.{leb-true, and_parts, cond_both}
use Rattle.std.proofs.lemmas.List.{append_assoc, append-nil}
use Rattle.model.specs.Put.{Put, Body}
use Rattle.wire.specs.Reading.{Part, whole, ceases, number_in, read_put}
use Rattle.wire.specs.Answers.{Next, end, more, then_more, next_put, put_before, go_on, puts_in}
use Rattle.wire.proofs.Puts.{puts_step}

-- some puts before others, if these are puts
abbrev pub after : List (Put Body) → Option (List (Put Body)) → Option (List (Put Body))
after ps (Some qs) = Some (ps ++ qs)
after ps None = None

-- what follows a put is shorter
abbrev Shorter : ℕ → Option Next → Type 0
Shorter k (Some end) = Unit {0}
Shorter k (Some (more p t)) = length t < k
Shorter k None = Unit {0}

more_shorter : (k : ℕ) (t : List ℕ) (q : Part (Put Body)) → length t < k → Shorter k (then_more t q)
more_shorter k t (whole p) h = h
more_shorter k t (ceases n) h = tt

next_shorter : (s : List ℕ) → Shorter (length s) (next_put s)
unfolding next_put
next_shorter s =
    let r : List ℕ = drop 9 s in
    let n : ℕ = number_in (drop 1 s) in
    cond_both (eqb (get_or s 0 1) 0) _ _ (Shorter (length s)) (λ _. cond_both (eqb (length s) 1) _ _ (Shorter (length s)) (λ _. tt) (λ _. tt))
    (λ _.
    cond_both (leb 9 (length s) && eqb (get_or s 0 0) 1) _ _ (Shorter (length s))
    (λ h.
    let enough = leb-true 9 (length s) (and_parts (leb 9 (length s)) (eqb (get_or s 0 0) 1) h).0 in
    cond_both (leb n (length r)) _ _ (Shorter (length s)) (λ _. more_shorter (length s) (drop n r) (read_put (take n r)) (simp length-drop (omega arith))) (λ _. tt))
    (λ _. tt))

pub rest_shorter : (s t : List ℕ) (p : Put Body) → Some (more p t) ≡ next_put s → length t < length s
rest_shorter s t p e = subst (Shorter (length s)) (sym e) (next_shorter s)

-- no put before them
pub after_none : (o : Option (List (Put Body))) → after [] o ≡ o
after_none (Some ps) = refl
after_none None = refl

after_before : (ps : List (Put Body)) (p : Put Body) (o : Option (List (Put Body))) → after (ps ++ (p ∷ [])) o ≡ after ps (put_before p o)
after_before ps p (Some qs) = ap Some (append_assoc ps (p ∷ []) qs)
after_before ps p None = refl

-- a put more
pub after_more : (ps : List (Put Body)) (p : Put Body) (s t : List ℕ) → Some (more p t) ≡ next_put s → after (ps ++ (p ∷ [])) (puts_in t) ≡ after ps (puts_in s)
after_more ps p s t e = after_before ps p (puts_in t) ∙ sym (ap (after ps) (puts_step s ∙ ap (go_on puts_in) (sym e)))

-- their end
pub after_end : (ps : List (Put Body)) (s : List ℕ) → Some end ≡ next_put s → after ps (puts_in s) ≡ Some ps
after_end ps s e = ap (after ps) (puts_step s ∙ ap (go_on puts_in) (sym e)) ∙ ap Some (append-nil ps)

-- or they are none
pub after_no : (ps : List (Put Body)) (s : List ℕ) → None ≡ next_put s → after ps (puts_in s) ≡ None
after_no ps s e = ap (after ps) (puts_step s ∙ ap (go_on puts_in) (sym e))
