use Rattle.std.proofs.Common.{◌≡◌, List, [], ◌∷◌, ◌++◌, map, Some, None, vec_items, sym, ap, ◌∙◌}
use mathlib.Core.List.{map-append}
use Rattle.model.specs.Put.{Put, Body}
use Rattle.wire.specs.Answers.{end, more, next_put, puts_in}
use Rattle.wire.specs.Said as said
use Rattle.messages.specs.Meaning.{put_of}
use Rattle.messages.proofs.Puts.{after, after_more, after_end, after_no}
use Rattle.messages.proofs.reading.puts_of.Goals as goal

pub returns-in_default : goal.returns-in_default
returns-in_default c =
    let none : None ≡ next_put (said.bytes_left c.loop-put.put-iterator) = ap (λ r. said.given (Some r) (said.bytes_left c.next.new.self)) (sym c.in_default.is) ∙ c.in-Some.ensures.steps.0 in
    sym (after_no (map put_of (vec_items c.loop-put.all)) _ none) ∙ c.loop-put.invariant

pub loop-put-preserved : goal.loop-put-preserved
loop-put-preserved c =
    let ps : List (Put Body) = map put_of (vec_items c.loop-put.all) in
    let one : Some (more (said.put_of c.in-Ok.put) (said.bytes_left c.next.new.self)) ≡ next_put (said.bytes_left c.loop-put.put-iterator) =
    ap (λ r. said.given (Some r) (said.bytes_left c.next.new.self)) (sym c.in-Ok.is) ∙ c.in-Some.ensures.steps.0 in
    let all : map put_of (vec_items c.push.new.self) ≡ ps ++ (said.put_of c.in-Ok.put ∷ []) =
    ap (map put_of) c.in_ok-push.ensures.items ∙ map-append put_of (vec_items c.loop-put.all) (c.in_ok-put_of.field-0 ∷ []) ∙ ap (λ p. ps ++ (p ∷ [])) c.in_ok-put_of.ensures in
    ap (λ qs. after qs (puts_in (said.bytes_left c.next.new.self))) all ∙ after_more ps _ _ _ one ∙ c.loop-put.invariant

pub returns : goal.returns
returns c =
    let ended : Some end ≡ next_put (said.bytes_left c.loop-put.put-iterator) = c.in-None.ensures.steps.0 in
    sym (after_end (map put_of (vec_items c.loop-put.all)) _ ended) ∙ c.loop-put.invariant
