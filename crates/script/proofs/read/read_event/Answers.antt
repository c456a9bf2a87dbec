use Rattle.std.proofs.Common.{◌∷◌, vec_items, codes, refl, arith}
use Rattle.words.specs.Text.{Words, numbers_text}
use Rattle.words.proofs.Spaces.{cut_at}
use Rattle.script.specs.Events.{CanPair, keyed}
use Rattle.script.proofs.Parts.{none_is, none_read}
use Rattle.script.proofs.Verbs.{event_none, other_word}
use Rattle.script.proofs.read.read_event.Goals as goal

pub returns-in_default-2 : goal.returns-in_default-2
returns-in_default-2 c =
    let v = c.in-Some.verb.now in
    event_none c.args.text.now v c.in-Some.rest.now (cut_at c.args.text.now c.in-Some.verb c.in-Some.rest c.in-Some.ensures.cases)
    (λ k b can e r. none_is keyed CanPair c.in-Some.rest.now c.in_ok-key-in-put.field-0 c.in_default-2.is c.in_ok-key-in-put.ensures (k, b) can r)
    (λ k can e r. other_word v (codes "put") (codes "get") refl c.in-put.is e)
    (λ p can e r. other_word v (codes "put") (codes "came") refl c.in-put.is e)
    (λ j k can e r. other_word v (codes "put") (codes "has") refl c.in-put.is e)

pub returns-in_default-4 : goal.returns-in_default-4
returns-in_default-4 c =
    let v = c.in-Some.verb.now in
    event_none c.args.text.now v c.in-Some.rest.now (cut_at c.args.text.now c.in-Some.verb c.in-Some.rest c.in-Some.ensures.cases)
    (λ k b can e r. other_word v (codes "has") (codes "put") refl c.in-has.is e)
    (λ k can e r. other_word v (codes "has") (codes "get") refl c.in-has.is e)
    (λ p can e r. other_word v (codes "has") (codes "came") refl c.in-has.is e)
    (λ j k can e r. none_read numbers_text Words c.in-Some.rest.now vec_items c.in_ok-clock-in-has.field-0 c.in_default-4.is c.in_ok-clock-in-has.ensures (j ∷ vec_items k) (can, omega arith) r)
