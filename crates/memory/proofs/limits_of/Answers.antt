use Rattle.std.proofs.Common.{ℕ, List, get_or, Ok, refl, ◌∙◌, subst}
use Rattle.memory.specs.Layout.{limits_in, Room}
use Rattle.memory.proofs.Starts.{header_says}
use Rattle.memory.proofs.limits_of.Goals as goal

pub returns-in_err-words_for-clause-image : goal.returns-in_err-words_for-clause-image
returns-in_err-words_for-clause-image c =
    let m = c.args.mem.now in
    let P : List ℕ → Type 0 = λ row. Room (limits_in row) (get_or row 2 0) m → ⊥ in
    λ l s rest v e. absurd (subst P c.read_row.ensures (c.in_err-words_for.ensures m refl) (header_says l s m rest v e).1)

pub returns-clause-image : goal.returns-clause-image
returns-clause-image c =
    let e = c.read_row.ensures in
    λ l s rest v em. let h = (header_says l s c.args.mem.now rest v em).0 in (λ i. Ok (limits_in (e i), get_or (e i) 2 0)) ∙ (λ i. Ok (h.0 i, h.1 i))
