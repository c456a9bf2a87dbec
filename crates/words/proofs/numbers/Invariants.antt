use Rattle.std.proofs.Common.{◌≡◌, map, vec_items, decimal}
use Rattle.std.specs.List.{AllByRecursion}
use Rattle.words.specs.Text.{Word}
use Rattle.words.proofs.numbers.Given as goal

abbrev pub invariant-loop-word : goal.invariant-loop-word
invariant-loop-word l = record {
  read : map decimal (vec_items l.all) ≡ map (λ w. w.now) l.yielded;
  words : AllByRecursion Word (vec_items l.all);
}
