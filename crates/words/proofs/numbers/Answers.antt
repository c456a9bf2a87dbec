use Rattle.std.proofs.Common.{length, vec_items, ◌∙◌, lit<}
use Rattle.std.proofs.lemmas.Iterator.Consumers.{YieldsList-turn, YieldsList-end}
use Rattle.std.proofs.lemmas.Iterator.Splits.{YieldsList-from_str_split}
use Rattle.words.proofs.Spaces.{all_numbers, no_number}
use Rattle.words.proofs.numbers.Goals as goal

pub returns-in_default : goal.returns-in_default
returns-in_default c =
    let t = YieldsList-turn (YieldsList-from_str_split 32 c.args.text.now (lit< tt) (cc) (cc) (cc)) c.loop-word.yielded _ c.loop-word.yielded_by _ _ c.in-Some.word c.in-Some.is c.next.ensures.steps in
    no_number c.args.text.now c.in-Some.word.now (length c.loop-word.yielded) t.0 t.1 c.in_default.ensures

pub returns : goal.returns
returns c =
    let t = YieldsList-end (YieldsList-from_str_split 32 c.args.text.now (lit< tt) (cc) (cc) (cc)) c.loop-word.yielded _ c.loop-word.yielded_by _ _ c.in-None.is c.next.ensures.steps in
    all_numbers c.args.text.now (vec_items c.loop-word.all) c.loop-word.invariant.words (c.loop-word.invariant.read ∙ t.0)
