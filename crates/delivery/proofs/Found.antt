-- What `find_map` finds over a range, said of the numbers in it.
use Rattle.std.proofs.Common.{◌≡◌, ℕ, ◌+◌, ◌<◌, Some, None, Option, ap, ◌∙◌, subst, arith}
use Rattle.std.specs.Bool.{IsTrue}
use Rattle.std.specs.Fn.{Called}
use Rattle.std.specs.Option.{option_map, MatchOption, IfSome, IsSomeAnd}
use Rattle.std.specs.declared.ops.Range.{Range}
use Rattle.std.specs.Iterator.Runs.{Run, SomeRun, AllItemsGive, IsFirstToGive}
use Rattle.std.proofs.iter.Yields.{nat_range_steps}
use Rattle.std.proofs.iter.runs.Sources.{range_runs}
use Rattle.std.proofs.lemmas.Option.{none-some, same_Some}
use denote.Param.Members.{Mut}

module _ (P : ℕ → Type 0) where
  if_there : (o : Option ℕ) (k : ℕ) → option_map (λ y. y) o ≡ Some k → IfSome o P → P k
  if_there None k e h = absurd (none-some k e)
  if_there (Some x) k e h = subst P (same_Some x k e) h

  and_there : (o : Option ℕ) (k : ℕ) → option_map (λ y. y) o ≡ Some k → IsSomeAnd o P → P k
  and_there None k e h = absurd (none-some k e)
  and_there (Some x) k e h = subst P (same_Some x k e) h

at_place : (n : ℕ) (p : Run nat_range_steps) → p.from ≡ record { start = 0; end = n } → (k : ℕ) → k < p.len → option_map (λ y. y) (p.at k) ≡ Some k
at_place n p e k lt = let z : p.from.start + k ≡ k = omega (arith, ap (λ (x : Range ℕ). x.start) e) in (range_runs p p.seen).3 k lt ∙ ap (λ x. Some x) z

pub found_from_Range : {F B : Type 0} {g : Mut F (ℕ × Unit {0}) (Option B)} (n m : ℕ) (f : F) (r : Option B) (Gives : ℕ → Option B → Type 0) → n ≡ m →
    SomeRun nat_range_steps (record { start = 0; end = n }) (λ p. MatchOption r (IsTrue p.whole × AllItemsGive p g f None) (λ y. (i : ℕ) × (i < p.len) × (p.len ≡ i + 1) × IsFirstToGive p g f (Some y) None i)) →
    ((x : ℕ) (o : Option B) (q : F) → Called g f (x, tt) o q → (q ≡ f) × Gives x o) → MatchOption r ((k : ℕ) → k < m → Gives k None) (λ y. (i : ℕ) × (i < m) × Gives i (Some y) × ((k : ℕ) → k < i → Gives k None))
found_from_Range {g = g} n m f None Gives e h says =
    λ k lt.
    let p = h.0 in
    let len : k < p.len = omega (arith, (range_runs p p.seen).1 h.2.0, ap (λ (x : Range ℕ). x.start) h.1, ap (λ (x : Range ℕ). x.end) h.1) in
    (says k None f (if_there (λ x. Called g f (x, tt) None f) (p.at k) k (at_place n p h.1 k len) (h.2.1 (λ a o q t. (says a.0 o q t).0) k))).1
found_from_Range {g = g} n m f (Some y) Gives e h says =
    let p = h.0 in
    let i = h.2.0 in
    let lt = h.2.1 in
    let first = h.2.3 (λ a o q t. (says a.0 o q t).0) in (
      i,
      omega (arith, (range_runs p p.seen).0, ap (λ (x : Range ℕ). x.start) h.1, ap (λ (x : Range ℕ). x.end) h.1),
      (says i (Some y) f (and_there (λ x. Called g f (x, tt) (Some y) f) (p.at i) i (at_place n p h.1 i lt) first.0)).1,
      λ k less. (says k None f (and_there (λ x. Called g f (x, tt) None f) (p.at k) k (at_place n p h.1 k (omega arith)) (first.1 k less))).1,
    )
