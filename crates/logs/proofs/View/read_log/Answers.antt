use Rattle.std.proofs.Common.{◌+◌, ◌%◌, ◌∙◌}
use Rattle.puts.specs.Words.{code_slot}
use Rattle.slots.specs.Image.{put_at}
use Rattle.memory.proofs.State.{reads}
use Rattle.logs.proofs.View.read_log.Goals as goal

pub returns : goal.returns
unfolding code_slot
returns c =
    λ l r k d h lt en.
    let v = h.holds.valid in
    let w = h.laid.log in
    c.read_slot.ensures ∙ (λ i. put_at ((c.log_slot.ensures ∙ (λ j. w.0 j + en j % w.1 j)) i) (h.holds.mem i)) ∙ (reads l r v.fits).logged v.shaped k d lt
