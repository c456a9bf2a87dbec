use Rattle.std.proofs.Common.{◌+◌, ap, ◌∙◌}
use Rattle.slots.specs.Image.{put_at}
use Rattle.memory.proofs.State.{reads}
use Rattle.logs.proofs.View.value_at.Goals as goal

pub returns : goal.returns
returns c = λ l r f h. c.read_slot.ensures ∙ (λ i. put_at ((c.key_slot.ensures ∙ ap (λ k. k + c.args.key) c.args.self.now.at.ranged.keys) i) (f.mem i)) ∙ (reads l r f.fits).stands c.args.key h
