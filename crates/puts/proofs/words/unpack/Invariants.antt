use Rattle.std.proofs.Common.{◌≡◌, ◌*◌, length, take}
use Rattle.std.specs.List.{flat_map}
use Rattle.puts.specs.Words.{eight_of}
use Rattle.puts.proofs.words.unpack.Given as goal

abbrev pub invariant-loop-k : goal.invariant-loop-k
invariant-loop-k l = (length l.bytes ≡ 64) × (take (8 * l.k) l.bytes ≡ flat_map eight_of (take l.k l.words))
