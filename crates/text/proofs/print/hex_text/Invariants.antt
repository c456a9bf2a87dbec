use Rattle.std.proofs.Common.{◌≡◌, ◌*◌, length, take}
use Rattle.words.specs.Text.{hex}
use Rattle.text.proofs.print.hex_text.Given as goal

abbrev pub invariant-loop-i : goal.invariant-loop-i
invariant-loop-i l = record {
  room : length l.digits ≡ 128;
  done : take (2 * l.i) l.digits ≡ hex (take l.i l.bytes);
}
