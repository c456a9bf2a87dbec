use Rattle.std.proofs.Common.{vec_items}
use Rattle.words.specs.Text.{Bytes, Words, numbers_text, value_text}
use Rattle.words.proofs.Spaces.{cut_at, uncut}
use Rattle.script.proofs.Parts.{none_read, put_no_key, put_no_numbers, put_no_value, put_no_value_end, put_uncut}
use Rattle.script.proofs.read.read_put.Goals as goal

pub returns-in_default : goal.returns-in_default
returns-in_default c = put_uncut c.args.text.now (uncut c.args.text.now c.in_default.ensures.cases)

pub returns-in_default-number : goal.returns-in_default-number
returns-in_default-number c =
    put_no_key c.args.text.now c.in-Some.key.now c.in-Some.rest.now (cut_at c.args.text.now c.in-Some.key c.in-Some.rest c.in-Some.ensures.cases) c.in_default-number.ensures

pub returns-in_default-split_once : goal.returns-in_default-split_once
returns-in_default-split_once c =
    put_no_value_end c.args.text.now c.in-Some.key.now c.in-Some.rest.now (cut_at c.args.text.now c.in-Some.key c.in-Some.rest c.in-Some.ensures.cases)
    (uncut c.in-Some.rest.now c.in_default-split_once.ensures.cases)

pub returns-in_default-2 : goal.returns-in_default-2
returns-in_default-2 c =
    put_no_value c.args.text.now c.in-Some.key.now c.in-Some.rest.now (cut_at c.args.text.now c.in-Some.key c.in-Some.rest c.in-Some.ensures.cases)
    c.in-Some-split_once.word.now c.in-Some-split_once.rest.now (cut_at c.in-Some.rest.now c.in-Some-split_once.word c.in-Some-split_once.rest c.in-Some-split_once.ensures.cases)
    (none_read value_text Bytes c.in-Some-split_once.word.now vec_items c.in_ok-value.field-0 c.in_default-2.is c.in_ok-value.ensures)

pub returns-in_default-3 : goal.returns-in_default-3
returns-in_default-3 c =
    put_no_numbers c.args.text.now c.in-Some.key.now c.in-Some.rest.now (cut_at c.args.text.now c.in-Some.key c.in-Some.rest c.in-Some.ensures.cases)
    c.in-Some-split_once.word.now c.in-Some-split_once.rest.now (cut_at c.in-Some.rest.now c.in-Some-split_once.word c.in-Some-split_once.rest c.in-Some-split_once.ensures.cases)
    (none_read numbers_text Words c.in-Some-split_once.rest.now vec_items c.in_ok-seen.field-0 c.in_default-3.is c.in_ok-seen.ensures)
