use Rattle.std.proofs.Common.{[], rules, sym, ◌∙◌}
use Rattle.std.proofs.lemmas.Iterator.{YieldsList-from_map_by, YieldsList-from_range}
use Rattle.std.proofs.lemmas.Iterator.Consumers.{map_from_collect}
use Rattle.std.proofs.lemmas.List.FromFn.{length-range_with_len}
use Rattle.std.proofs.lemmas.Simd.{splat_is_map}
use Rattle.std.specs.List.{range_with_len}
use Rattle.player.proofs.Remembers.{bytes_of}
use Rattle.player.proofs.made.Made.nothing.Goals as goal

pub returns : goal.returns
returns c =
    let all =
    map_from_collect {s = c.map.result} c.collect.result c.collect.ensures.ran
    (YieldsList-from_map_by {s = c.map.result} _ bytes_of (λ _. []) (YieldsList-from_range 0 c.args.replicas c.args.replicas (search rules) (search rules)) c.map.ensures.closure (λ x r q k. search rules)) in
    rw c.in_ok-puts.was at all ∙ sym (splat_is_map (range_with_len 0 c.args.replicas) c.args.replicas [] (length-range_with_len 0 c.args.replicas))
