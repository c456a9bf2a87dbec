-- A call of one of some replicas, and their opening.
use Rattle.std.proofs.Common.{◌≡◌, ℕ, ◌+◌, ◌<◌, List, [], ◌∷◌, ◌++◌, map, length, get_or, set, IfOk, Ok, Err, vec_items, Result, Vec, sym, ap, ◌∙◌, subst, ⊎_elim, arith}
use lib.ListN.{length-map}
use Rattle.std.specs.declared.alloc.Global.{Global}
use Rattle.std.proofs.lemmas.List.{map-set, map_push, get_or-map, get_or_push, get_or_append_left, length_push}
use Rattle.std.proofs.lemmas.Bool.{cases_lt}
use Rattle.memory.specs.declared.Limits.{Limits}
use Rattle.text.specs.Event.{Answer}
use Rattle.player.specs.Played.{New, AllNew, Played, PlayedAt}

pub played_at :
    {E : Type 0} (ms : List (Vec ℕ Global)) (i : ℕ) (v d : Vec ℕ Global) (before after s : List ℕ) (r : Result Answer E) →
    i < length ms → before ≡ vec_items (get_or ms i d) → vec_items v ≡ after →
    IfOk r (λ a. Played before s after a) → IfOk r (λ a. PlayedAt (map vec_items ms) i s (map vec_items (set ms i v)) a)
played_at ms i v d before after s (Err e) h was is p = tt
played_at ms i v d before after s (Ok a) h was is p =
    let many = length-map ms vec_items in
    record {
      there = λ _. (after, map-set vec_items ms i v ∙ ap (set (map vec_items ms) i) is, subst (λ m. Played m s after a) (was ∙ sym (get_or-map vec_items ms i d [] h)) p);
      nowhere = λ few. absurd (omega arith);
    }

-- one replica more that was opened
pub one_more_new : (x : Limits) (n : ℕ) (vs us : List (Vec ℕ Global)) (v : Vec ℕ Global) → us ≡ vs ++ v ∷ [] → AllNew x n (map vec_items vs) → New x n (vec_items v) → AllNew x (n + 1) (map vec_items us)
one_more_new x n vs us v e all new =
    let ms : List (List ℕ) = map vec_items vs in
    let is : map vec_items us ≡ ms ++ vec_items v ∷ [] = ap (map vec_items) e ∙ map_push vec_items vs v in
    let one : (i : ℕ) → i < n + 1 → New x i (get_or (ms ++ vec_items v ∷ []) i []) =
    λ i h. ⊎_elim
    (λ less. subst (New x i) (sym (get_or_append_left ms (vec_items v ∷ []) [] i (omega (arith, all.many)))) (all.each i less))
    (λ more.
    let last : n ≡ i = omega arith in
    subst (New x i) (sym (get_or_push ms (vec_items v) [] i (all.many ∙ last))) (subst (λ j. New x j (vec_items v)) last new))
    (cases_lt i n) in
    record { many = ap length is ∙ length_push ms (vec_items v) ∙ (omega (arith, all.many)); each = λ i h. subst (λ l. New x i (get_or l i [])) (sym is) (one i h) }
