-- The worked example holds by computing.
use Rattle.std.proofs.Common.{ℕ, refl}
use Rattle.model.specs.Clock.{sum, below, join, small}
use Rattle.model.specs.Delivery.{is_in, all_have, first_ready, take_then, settle}
use Rattle.model.specs.Store.{stand, stored_all}
use Rattle.model.specs.Replica.{event_number, legible, in_range, possible, log_room, queue_room, first_failing, place, moves, says, replica}
use Rattle.model.specs.Cluster.{is_put, puts_of, told_by}
use Rattle.model.specs.Convergence.{ran}
use Rattle.model.specs.Example.{answers, WorkedExample, ReplyOfEight}

-- all that has to compute, named once
unfoldable pub opens : ℕ
unfolding sum below join small is_in all_have first_ready take_then settle stand stored_all event_number legible in_range possible log_room queue_room first_failing place moves says replica is_put puts_of told_by ran answers
opens = 0

pub worked_example : WorkedExample
unfolding opens
worked_example = (refl, (refl, (refl, (refl, (refl, (refl, (refl, (refl, (refl, (refl, (refl, (refl, (refl, (refl, (refl, (refl, tt))))))))))))))))

pub reply_of_eight : ReplyOfEight
unfolding opens
reply_of_eight = refl
