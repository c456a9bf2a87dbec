use Rattle.std.proofs.Common.{vec_items, ap, ◌∙◌, arith}
use Rattle.std.proofs.lemmas.List.{with_items_is}
use Rattle.player.proofs.Calls.{played_at}
use Rattle.player.proofs.replicas.Replicas.call.Goals as goal

pub returns : goal.returns
returns c =
    let memory = c.in-Some.memory.now in
    let more = with_items_is memory c.answered.new.memory (omega (arith, c.answered.auto.memory, c.as_mut_slice.ensures.len)) in
    played_at c.args.self.now.memories.items c.args.replica _ memory _ c.answered.new.memory c.args.event.now c.answered.result c.in-Some.ensures.item.3.0 (c.as_mut_slice.ensures.value ∙ ap vec_items c.in-Some.ensures.value) more c.answered.ensures
