use Rattle.std.proofs.Common.{◌≡◌, ◌<◌, length, take, sym, ap, arith}
use Rattle.std.specs.List.{flat_map}
use Rattle.std.proofs.lemmas.List.{take_all}
use Rattle.wire_out.specs.Said.{item}
use Rattle.wire_out.proofs.Overs.{adds_nothing, then_adds, adds_as}
use Rattle.wire_out.proofs.Sizes.{joined_next, room_next, puts_items, length_items}
use Rattle.wire_out.proofs.writer.Writer.puts.Goals as goal

pub loop-put-init : goal.loop-put-init
loop-put-init c = adds_nothing _ (omega arith)

pub item-requires : goal.item-requires
item-requires c =
    let ps = c.args.puts.now in
    let less : c.loop-put.put-index < length ps = omega arith in
    room_next c.args.self.now.at c.loop-put.self.at _ ps c.loop-put.put-index _ less c.loop-put.invariant.wrote.end (omega (arith, c.loop-put.invariant.long))

pub loop-put-preserved : goal.loop-put-preserved
loop-put-preserved c =
    let ps = c.args.puts.now in
    let less : c.loop-put.put-index < length ps = omega arith in
    adds_as (then_adds c.loop-put.invariant c.item.ensures) (sym (joined_next item ps c.loop-put.put-index _ less))

pub end-requires : goal.end-requires
end-requires c =
    let ps = c.args.puts.now in
    let all : take c.loop-put.put-index ps ≡ ps = take_all _ ps (omega arith) in
    omega (arith, length_items ps, ap (λ l. length (flat_map item l)) all, c.loop-put.invariant.wrote.end, c.loop-put.invariant.long)

pub returns : goal.returns
returns c =
    let ps = c.args.puts.now in
    let all : take c.loop-put.put-index ps ≡ ps = take_all _ ps (omega arith) in
    adds_as (then_adds (adds_as c.loop-put.invariant (ap (flat_map item) all)) c.end.ensures) (sym (puts_items ps))
