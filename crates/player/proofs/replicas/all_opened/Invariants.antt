use Rattle.std.proofs.Common.{map, vec_items}
use Rattle.player.specs.Played.{AllNew}
use Rattle.player.proofs.replicas.all_opened.Given as goal

abbrev pub invariant-loop-me : goal.invariant-loop-me
invariant-loop-me l = AllNew l.limits l.me (map vec_items (vec_items l.memories))
