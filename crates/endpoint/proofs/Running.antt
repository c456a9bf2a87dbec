-- A program of `call` is right after any events: one event does what the rules say.
use Rattle.std.proofs.Common.{◌++◌, [], ap, ◌∙◌, subst}
use Rattle.std.proofs.lemmas.Bool.{and_parts}
use Rattle.model.specs.Program.{Program, memory, readable, all_readable, AnswersRight, RefusalKeepsMemory, MemoryBounded}
use Rattle.model.specs.Replica.{answer, after, replica}
use Rattle.memory.specs.Image.{encode}
use Rattle.memory.specs.Valid.{Valid}
use Rattle.memory.specs.Running.{all_events}
use Rattle.memory.proofs.Running as running
use Rattle.memory.proofs.Running.{Next, all_words}
use Rattle.wire.specs.Answers.{read_answer}
use Rattle.wire.specs.Bytes.{write_answer}
use Rattle.wire.proofs.Events.{reads_back}
use Rattle.wire.proofs.Carried.{replica_answers_read_back}
use Rattle.endpoint.specs.Running.{Runs}

-- one event, by the contract of `call`, whose bytes and whose answer's bytes are read back
next : (f : Program) → Runs f → Next all_events f
unfolding all_readable
next f runs l i es e good here h before =
    let carried = (and_parts (readable e) (all_readable es) h).0 in
    let r = replica l i es in
    let m = memory f l i es in
    let d = (runs.calling m e (all_words l r m before) carried).right l r [] good.supports before.valid before.mem in
    let back = reads_back e carried in
    let says = ap read_answer (d.says ∙ ap (λ x. write_answer (answer l r x)) back) ∙ (replica_answers_read_back all_events l i es e good here h).1 in
    record { valid = subst (λ x. Valid l (after l r x)) back d.valid; mem = d.mem ∙ ap (λ x. encode l (after l r x) ++ []) back; says = runs.answering m e (answer l r e) says }

-- THE THEOREMS
pub right : (f : Program) → Runs f → AnswersRight all_events f
right f runs = running.right all_events f runs.opens (next f runs)

pub kept : (f : Program) → Runs f → RefusalKeepsMemory all_events f
kept f runs = running.kept all_events f runs.opens (next f runs)

pub within : (f : Program) → Runs f → MemoryBounded all_events f
within f runs = running.within all_events f runs.opens (next f runs)
