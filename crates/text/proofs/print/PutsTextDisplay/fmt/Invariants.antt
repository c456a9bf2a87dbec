use Rattle.std.proofs.Common.{◌+◌, take}
use Rattle.std.specs.Fmt.{HasWritten, IsPlainFormatter}
use Rattle.text.specs.Printed.{puts_text}
use Rattle.text.proofs.print.PutsTextDisplay.fmt.Given as goal

abbrev pub invariant-loop-put : goal.invariant-loop-put
invariant-loop-put g l = IsPlainFormatter l.fn.f → HasWritten g.W.Write.write_str_gives l.fn.f (puts_text (take (l.put-index + 1) l.self.0.now)) l.f
