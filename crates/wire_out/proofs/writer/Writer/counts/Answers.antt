use Rattle.std.proofs.Common.{◌≡◌, ℕ, ◌<◌, List, [], ◌∷◌, ◌++◌, length, get_or, take, sym, refl, ap, ◌∙◌, arith}
use Rattle.std.proofs.lemmas.List.{take_more, take_all}
use Rattle.wire.specs.Bytes.{write_number, write_counts}
use Rattle.wire_out.proofs.Overs.{adds_nothing, then_adds, adds_as}
use Rattle.wire_out.proofs.writer.Writer.counts.Goals as goal

counts_push : (c : List ℕ) (n : ℕ) → write_counts c ++ ((1 ∷ []) ++ write_number n) ≡ write_counts (c ++ (n ∷ []))
unfolding write_counts
counts_push [] n = refl
counts_push (m ∷ c) n = ap (λ l. 1 ∷ (write_number m ++ l)) (counts_push c n)

pub loop-n-init : goal.loop-n-init
unfolding write_counts
loop-n-init c = record { place = omega arith; adds = adds_nothing _ (omega arith) }

pub loop-n-preserved : goal.loop-n-preserved
loop-n-preserved c =
    let cs = c.args.counts.now in
    let i : ℕ = c.loop-n.n-index in
    let less : i < length cs = omega arith in
    record {
      place = omega (arith, c.mark.ensures.wrote.end, c.number.ensures.wrote.end);
      adds = adds_as (then_adds c.loop-n.invariant.adds (then_adds c.mark.ensures c.number.ensures)) (counts_push (take i cs) (get_or cs i 0) ∙ ap write_counts (sym (take_more cs i 0 less)));
    }

pub returns : goal.returns
returns c = adds_as c.loop-n.invariant.adds (ap write_counts (take_all _ c.args.counts.now (omega arith)))
