use Rattle.std.proofs.Common.{◌≤◌, ltb, length, ap, ◌∙◌, arith}
use Rattle.model.specs.Clock.{at}
use Rattle.wire.specs.Reading.{clock_in}
use Rattle.wire.specs.Said.{put_of}
use Rattle.ranges.proofs.Tests.{all_hold, body_fails, clock_long, from_fails, number_fails, number_in, number_out, seen_fails}
use Rattle.ranges.proofs.put_in_range.Goals as goal

pub returns-in_err-key : goal.returns-in_err-key
returns-in_err-key c = rw c.from_residual.ensures (λ l e h. body_fails l (put_of c.args.put) (c.in_err-key.ensures l e))

pub returns-in_err-from : goal.returns-in_err-from
returns-in_err-from c = rw c.from_residual-in_err-from.ensures (λ l e h. from_fails l (put_of c.args.put) (ap (λ x. ltb c.args.put.from x.replicas) e ∙ c.in_err-from.ensures))

pub returns-in_err-seen : goal.returns-in_err-seen
returns-in_err-seen c = rw c.from_residual-in_err-seen.ensures (λ l e h. seen_fails l (put_of c.args.put) (c.in_err-seen.ensures l e h))

pub returns-then-count : goal.returns-then-count
returns-then-count c = λ l e h.
    let seen = c.in_ok-seen.ensures l e h in
    let from = c.in_ok-from.ensures.1 in
    let long : length (clock_in c.args.put.seen.bytes.now) ≤ 16 = omega (arith, clock_long l (clock_in c.args.put.seen.bytes.now) seen.0, ap (λ x. x.replicas) e, h.replicas.1) in
    number_fails l (put_of c.args.put)
    (number_out (clock_in c.args.put.seen.bytes.now) c.args.put.from c.count.result long (c.count.ensures ∙ (λ i. at (seen.1 i).counts (from i))) c.if-count.true)

pub returns : goal.returns
returns c = λ l e h.
    let parts = c.in_ok-key.ensures l e in
    let seen = c.in_ok-seen.ensures l e h in
    let from = c.in_ok-from.ensures in
    let long : length (clock_in c.args.put.seen.bytes.now) ≤ 16 = omega (arith, clock_long l (clock_in c.args.put.seen.bytes.now) seen.0, ap (λ x. x.replicas) e, h.replicas.1) in (
      all_hold l (put_of c.args.put) parts.0 (ap (λ x. ltb c.args.put.from x.replicas) e ∙ from.0) seen.0
          (number_in (clock_in c.args.put.seen.bytes.now) c.args.put.from c.count.result long (c.count.ensures ∙ (λ i. at (seen.1 i).counts (from.1 i))) (omega arith)),
      λ i. record { from = from.1 i; seen = seen.1 i; key = (parts.1 i).0; value = (parts.1 i).1 },
    )
