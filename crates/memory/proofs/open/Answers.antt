use Rattle.std.proofs.Common.{◌≤◌, length, refl, ◌∙◌, arith}
use Rattle.std.proofs.lemmas.List.{length-take-le}
use Rattle.memory.proofs.Starts.{opened}
use Rattle.memory.proofs.open.Goals as goal

pub returns : goal.returns
returns c =
    let a = c.in_ok-n.ensures in
    let room = a.1 c.args.mem.now refl in
    let le : c.in_ok-n.n ≤ length c.args.mem.now = omega (arith, a.0, room.words) in
    (c.layout.ensures, opened c.args.limits c.args.me c.in_ok-n.n c.args.mem.now _ a.0 room (c.start.ensures room.limits (length-take-le c.in_ok-n.n c.args.mem.now le ∙ a.0)))
