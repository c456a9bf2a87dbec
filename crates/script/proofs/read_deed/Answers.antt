use Rattle.std.proofs.Common.{codes, refl}
use Rattle.text.specs.Printed.{event_words}
use Rattle.words.proofs.Spaces.{cut_at}
use Rattle.script.specs.Events.{CanEvent}
use Rattle.script.proofs.Parts.{none_is}
use Rattle.script.proofs.Verbs.{deed_none, other_word}
use Rattle.script.proofs.read_deed.Goals as goal

pub returns-in_default-read_two : goal.returns-in_default-read_two
returns-in_default-read_two c =
    let v = c.in-Some-split_once.verb.now in
    deed_none c.args.text.now (none_is event_words CanEvent c.args.text.now c.in_ok-event.field-0 c.in_default.is c.in_ok-event.ensures) v c.in-Some-split_once.rest.now
    (cut_at c.args.text.now c.in-Some-split_once.verb c.in-Some-split_once.rest c.in-Some-split_once.ensures.cases)
    (λ b can e r. other_word v (codes "from") (codes "bytes") refl c.in-from.is e)
    (λ j n can e r. c.in_default-read_two.ensures (j, n) can r)
    (λ j can e r. other_word v (codes "from") (codes "asks") refl c.in-from.is e)
