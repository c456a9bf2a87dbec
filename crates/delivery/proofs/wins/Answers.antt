use Rattle.std.proofs.Common.{rules, ap, ◌∙◌, arith}
use Rattle.model.specs.Store.{shown}
use Rattle.puts.specs.Words.{code_slot}
use Rattle.delivery.proofs.Takes.{key_code, there_sound, wins_is}
use Rattle.delivery.proofs.wins.Goals as goal

pub returns : goal.returns
returns c =
    λ l r q f s e.
    let v = c.value_at.ensures l r f (omega (arith, key_code _ q e, s.key)) ∙ ap (λ x. code_slot (shown r.store x)) (key_code _ q e) in
    wins_is l q _ _ _ _ _ s (there_sound l r.store q f.fits.store s) e v c.map_or.ensures (λ old t a b. search (rules, t, a, b))
