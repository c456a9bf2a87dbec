use Rattle.std.proofs.Common.{◌+◌, cond, [], ◌∷◌, sym, ap, ◌∙◌}
use Rattle.model.specs.Put.{key_of}
use Rattle.model.specs.Store.{shown}
use Rattle.puts.specs.Words.{put_words, slot_words}
use Rattle.delivery.proofs.Takes.{stood_new, key_code}
use Rattle.delivery.proofs.stand.Goals as goal

pub returns-then-wins-clause-does : goal.returns-then-wins-clause-does
unfolding slot_words
returns-then-wins-clause-does c =
    λ l r q f s e.
    let k = key_code _ q e in
    let b = c.wins.ensures l r q f s e ∙ ap (λ t. cond t (q ∷ []) (shown r.store (key_of q.body))) c.if-wins.true in
    stood_new l r q _ _ _ _ f s (sym b) (c.key_slot.ensures ∙ (λ i. c.args.replica.now.at.ranged.keys i + k i)) (ap put_words e) c.write_slot.ensures
