use Rattle.std.proofs.Common.{arith, refl}
use Rattle.logs.proofs.Changes.{stands_in}
use Rattle.calls.proofs.Told.{told_enough, told_too_much}
use Rattle.calls.proofs.possible_clock.Goals as goal

pub returns-then-count-own_count : goal.returns-then-count-own_count
returns-then-count-own_count c = λ l r j k w long e.
    let h = w.holds in
    let x = w.laid in
    let own = c.own_count.ensures l r (stands_in l r c.args.view.now.mem.now c.args.view.now.at w) in
    (told_too_much l r j k c.own_count.result c.count.result c.args.view.now.at.me c.args.clock.now h.valid own x.me long e c.count.ensures (omega arith), refl)

pub returns : goal.returns
returns c = λ l r j k w long e.
    let h = w.holds in
    let x = w.laid in
    let own = c.own_count.ensures l r (stands_in l r c.args.view.now.mem.now c.args.view.now.at w) in
    told_enough l r j k c.own_count.result c.count.result c.args.view.now.at.me c.args.clock.now h.valid own x.me long e c.count.ensures (omega arith)
