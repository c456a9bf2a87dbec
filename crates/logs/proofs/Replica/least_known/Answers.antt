use Rattle.std.proofs.Common.{rules, ◌≡◌, ℕ, ◌+◌, min, [], ◌∷◌, length, sym, refl, ap, ◌∙◌, arith}
use Rattle.std.proofs.lemmas.Iterator.{YieldsList-from_range}
use Rattle.std.proofs.lemmas.Fn.{fold_over}
use Rattle.std.proofs.lemmas.Grind.{fold-append}
use Rattle.std.proofs.iter.Yields.{nat_range_steps}
use Rattle.std.specs.List.{fold}
use Rattle.slots.specs.Image.{word_at}
use Rattle.memory.proofs.State.{reads}
use Rattle.logs.proofs.Logs.{least_over}
use Rattle.logs.proofs.Replica.least_known.Goals as goal

pub returns : goal.returns
returns c =
    λ l r s.
    let x = c.args.self.now in
    let d = r.delivery in
    let f = s.fitted in
    let v = f.fits.delivery in
    let smaller : ℕ → ℕ → ℕ = λ n i. min n (word_at (2 + i) x.at.me x.mem.now) in
    let y = YieldsList-from_range 0 x.at.replicas (length d.known) refl (omega (arith, v.known, s.laid.replicas)) in
    fold_over nat_range_steps (λ n. n) _ (λ is n. n ≡ fold smaller c.args.own is) _ (λ is n i m q j k. let t : m ≡ smaller n i = search rules in (t ∙ ap (λ a. smaller a i) j ∙ sym (fold-append smaller c.args.own is (i ∷ [])), search rules)) (record { start = 0; end = x.at.replicas }) _ _ _ y.runs refl c.fold.ensures.ran
    ∙ least_over smaller c.args.own d.me 0 d.known (λ n i k h e. let g : k ≡ i = omega arith in ap (min n) ((λ z. word_at (2 + g z) (s.laid.me z) (f.mem z)) ∙ (reads l r f.fits).known_count i d.me (omega (arith, v.known)) (omega (arith, v.me, v.replicas))))
