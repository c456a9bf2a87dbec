-- A program of `step` is right after any events: one event does what the rules say.
use Rattle.std.proofs.Common.{[], ◌∙◌, subst}
use Rattle.std.proofs.lemmas.Bool.{and_parts}
use Rattle.model.specs.Program.{Program, memory, readable, all_readable, AnswersRight, RefusalKeepsMemory, MemoryBounded}
use Rattle.model.specs.Replica.{replica}
use Rattle.memory.specs.Running.{Stepped, all_events}
use Rattle.memory.proofs.Running as running
use Rattle.memory.proofs.Running.{Next, all_words}
use Rattle.memory.proofs.Starts.{header_says}
use Rattle.wire.proofs.Events.{reads_back}
use Rattle.replica.specs.Answered.{says_in}
use Rattle.replica.specs.Running.{Runs}

-- one event, by the contract of `step`, whose bytes are read back
next : (f : Program) → Runs f → Next all_events f
unfolding all_readable
next f runs l i es e good here h before =
    let carried = (and_parts (readable e) (all_readable es) h).0 in
    let r = replica l i es in
    let m = memory f l i es in
    let a = runs.answered_as m e in
    let s = subst (λ x. Stepped l r x [] (f.called m e) (says_in l.replicas a)) (reads_back e carried)
    ((runs.calling m e (all_words l r m before) carried).right l r [] good.supports before.valid before.mem) in
    let header = (header_says l r m [] before.valid before.mem).0.0 in
    record { valid = s.valid; mem = s.mem; says = runs.answering m e ∙ (λ k. says_in (header k).replicas a) ∙ s.says }

-- THE THEOREMS
pub right : (f : Program) → Runs f → AnswersRight all_events f
right f runs = running.right all_events f runs.opens (next f runs)

pub kept : (f : Program) → Runs f → RefusalKeepsMemory all_events f
kept f runs = running.kept all_events f runs.opens (next f runs)

pub within : (f : Program) → Runs f → MemoryBounded all_events f
within f runs = running.within all_events f runs.opens (next f runs)
