use Rattle.std.proofs.Common.{replicate, ap, ◌∙◌}
use Rattle.memory.specs.Layout.{model_limits}
use Rattle.memory.proofs.Starts.{started, first_is}
use Rattle.memory.proofs.start.Goals as goal

pub returns : goal.returns
returns c =
    λ g n can.
    c.write_row.ensures ∙ started (model_limits can c.args.limits) c.args.me _ _ g.replicas.1 (c.fill.ensures.after (λ y e. e) ∙ ap (λ k. replicate k 0) n) (first_is c.args.me c.args.limits)
