use Rattle.std.proofs.Common.{rules, ◌≡◌, ◌%◌, ◌<◌, length, vec_items, ap, ◌∙◌, arith}
use Rattle.std.specs.Slice.Iter.{chunks_exact_rest}
use Rattle.words.proofs.Values.{all_read, length_hex, next_pair, two_before}
use Rattle.words.proofs.hex_bytes.Goals as goal

pub returns-then-digits-ne0 : goal.returns-then-digits-ne0
returns-then-digits-ne0 c = λ bs f e. c.if-digits-ne0.true (omega (arith, ap length e ∙ length_hex bs))

pub returns-in_default : goal.returns-in_default
returns-in_default c = λ bs f e.
    let steps = c.in-Some.ensures.steps in
    let ms = vec_items c.loop-two.bytes in
    let next = chunks_exact_rest c.next.new.self in
    let read = two_before ms c.in-Some.two.now _ next _ c.loop-two.invariant.read steps.1.0 (steps.1.1 ∙ c.loop-two.invariant.size) in
    let byte = next_pair ms bs next _ _ f (read ∙ e) in
    c.in_default.ensures byte.0 byte.1 byte.2

pub returns : goal.returns
returns c =
    let even : length c.args.digits.now % 2 ≡ 0 = search rules in
    let few : length (chunks_exact_rest c.loop-two.two-iterator) < 2 = omega (arith, c.in-None.ensures.steps.1.0, c.loop-two.invariant.size) in
    (c.loop-two.invariant.bytes, all_read (vec_items c.loop-two.bytes) _ _ c.loop-two.invariant.read even few)
