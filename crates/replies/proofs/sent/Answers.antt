use Rattle.std.proofs.Common.{take, ap, arith}
use Rattle.std.proofs.lemmas.List.{length-take}
use Rattle.model.specs.Put.{text}
use Rattle.replies.proofs.Sizes.{item_size}
use Rattle.replies.proofs.sent.Goals as goal

pub returns : goal.returns
returns c =
    let p = c.args.put.now in
    let counts = take c.args.replicas p.seen.counts in
    record {
      is = ap (λ v. record { from = p.from; seen = counts; body = text p.key v }) c.as_bytes.ensures.value;
      most = item_size (record { from = p.from; seen = counts; body = text p.key c.as_bytes.result.now }) (omega (arith, length-take c.args.replicas p.seen.counts)) c.as_bytes.ensures.most;
    }
