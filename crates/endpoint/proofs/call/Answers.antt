use Rattle.std.proofs.Common.{◌≡◌, sym, ◌∙◌, subst, arith}
use Rattle.model.specs.Replica.{refused}
use Rattle.wire.specs.Bytes.{write_answer}
use Rattle.calls.specs.Answered.{number_of, place_of}
use Rattle.wire.proofs.Numbers.{bytes_each}
use Rattle.replies.specs.Written.{Writes}
use Rattle.endpoint.specs.Call.{Calls}
use Rattle.endpoint.proofs.Lives.{gives}
use Rattle.endpoint.proofs.call.Goals as goal

pub returns-in-Ok : goal.returns-in-Ok
returns-in-Ok c =
    let all = bytes_each c.args.event.now (λ i. omega (arith, c.type_inv.event i)) in
    let g = gives c.in-Ok.len c.args.mem.now c.args.event.now c.answered.new.mem c.args.out.now c.answered.new.out _ c.in-Ok.ensures (omega arith) (record { bytes = all; few = omega arith }) c.in-Ok.ensures.are in
    record { exact = g.0; lives = g.1 }

pub returns-in-Err : goal.returns-in-Err
returns-in-Err c =
    let all = bytes_each c.args.event.now (λ i. omega (arith, c.type_inv.event i)) in
    let n = c.put_refusal.result in
    let after = c.put_refusal.new.out in
    let f = c.into.ensures in
    let said = c.put_refusal.ensures in
    let w = subst (λ o. Writes n o after (λ b. b ≡ write_answer (refused (number_of c.in-Err.reason) (place_of c.in-Err.reason)))) c.in-Err.ensures.0
    (record { bytes = said.bytes; wrote = said.wrote; most = said.most; are = said.are ∙ (λ i. write_answer (refused (f.0 i) (f.1 i))) }) in
    let calls = subst (λ m. Calls c.args.mem.now c.args.event.now m w.bytes) (sym c.in-Err.ensures.1) (subst (Calls c.args.mem.now c.args.event.now c.args.mem.now) (sym w.are) c.in-Err.ensures.2) in
    let g = gives n c.args.mem.now c.args.event.now c.answered.new.mem c.args.out.now after _ w (omega arith) (record { bytes = all; few = omega arith }) calls in
    record { exact = g.0; lives = g.1 }
