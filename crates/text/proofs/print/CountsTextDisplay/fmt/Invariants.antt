use Rattle.std.proofs.Common.{take}
use Rattle.std.specs.Fmt.{HasWritten, IsPlainFormatter}
use Rattle.words.specs.Text.{counts_text}
use Rattle.text.proofs.print.CountsTextDisplay.fmt.Given as goal

abbrev pub invariant-loop-count : goal.invariant-loop-count
invariant-loop-count g l = IsPlainFormatter l.fn.f → HasWritten g.W.Write.write_str_gives l.fn.f (counts_text (take l.count-index l.count-items)) l.f
