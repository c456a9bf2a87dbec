use Rattle.std.proofs.Common.{[], ◌∷◌, ◌++◌, ap, append_assoc}
use Rattle.model.specs.Put.{text}
use Rattle.wire.specs.Bytes.{write_number, write_counts, write_body}
use Rattle.wire_out.proofs.Overs.{then_adds, adds_as}
use Rattle.wire_out.proofs.writer.Writer.put.Goals as goal

pub returns : goal.returns
returns c =
    let p = c.args.put in
    adds_as (then_adds c.number.ensures (then_adds c.clock.ensures c.text.ensures))
    (ap (λ t. write_number p.from ++ t) (append_assoc (write_counts p.seen.now) (0 ∷ []) (write_body (text p.key p.value.now))))
