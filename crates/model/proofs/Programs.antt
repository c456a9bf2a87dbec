-- Programs: what holds of the cluster's replicas holds of the programs that answer right.
use Rattle.std.proofs.Common.{sym, ap, ◌∙◌}
use Rattle.model.specs.Replica.{get, answer}
use Rattle.model.specs.Cluster.{trace}
use Rattle.model.specs.Convergence.{ran_all}
use Rattle.model.specs.Program.{AnswersRight}
use Rattle.model.specs.Theorems.{ProgramIsReplica, ProgramShowsLatest, ProgramsAgree, ProgramsConverge}
use Rattle.model.proofs.Trace.{replica_is}
use Rattle.model.proofs.Theorems.{shows_latest}
use Rattle.model.proofs.Converge.{converges}

pub program_is_replica : ProgramIsReplica
unfolding AnswersRight
program_is_replica can f right l good w x i e b read = right l i (trace l x i) e good b read ∙ ap (λ r. answer l r e) (sym (replica_is l x i))

pub program_shows_latest : ProgramShowsLatest
program_shows_latest can f right l good c w x i k b bk read = program_is_replica can f right l good w x i (get k) b read ∙ shows_latest l w i k x bk (good.supports 1 ∙ c)

pub programs_agree : ProgramsAgree
programs_agree can f g right_f right_g l good v x same i j k bi bj read_i read_j =
    (program_is_replica can f right_f l good v x i (get k) bi read_i ∙ (same i j bi bj).1 k) ∙ sym (program_is_replica can g right_g l good v x j (get k) bj read_j)

pub programs_converge : ProgramsConverge
programs_converge can f g right_f right_g l good c w rs y n r x i j k bi bj read_i read_j =
    programs_agree can f g right_f right_g l good (ran_all l w rs) x (converges l w rs (good.supports 2 ∙ c.0, good.supports 3 ∙ c.1, good.supports 4 ∙ c.2) y n r) i j k bi bj read_i read_j
