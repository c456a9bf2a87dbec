use Rattle.std.proofs.Common.{◌+◌, ◌%◌, ap, ◌∙◌, arith}
use Rattle.model.specs.Put.{number}
use Rattle.puts.specs.Values.{Put}
use Rattle.puts.specs.Values.{put_of}
use Rattle.puts.specs.Words.{put_words, slot_words}
use Rattle.puts.proofs.Padded.{number_code}
use Rattle.logs.proofs.Changes.{pushed}
use Rattle.logs.proofs.Replica.push.Goals as goal

pub returns-clause-does : goal.returns-clause-does
unfolding slot_words
returns-clause-does c =
    λ l r q s o h e.
    let b = ap (λ (p : Put). number (put_of p)) e ∙ number_code q o.fit in
    let n = c.number.ensures (omega (arith, o.fit.number)) ∙ b in
    let k = c.logged-len.ensures.count l r s (omega arith) in
    let w = s.laid.log in
    record { fitted = pushed l r _ s.fitted _ _ _ q _ _ (omega arith) o (c.log_slot.ensures ∙ (λ i. w.0 i + n i % w.1 i)) (ap put_words e) (omega arith) c.write_slot.ensures c.write_word.ensures; laid = s.laid }
