use Rattle.std.proofs.Common.{◌≡◌, ◌++◌, vec_items}
use Rattle.std.specs.Slice.Iter.{chunks_exact_rest, chunks_exact_size}
use Rattle.words.specs.Text.{Bytes, hex}
use Rattle.words.proofs.hex_bytes.Given as goal

abbrev pub invariant-loop-two : goal.invariant-loop-two
invariant-loop-two l = record {
  read : hex (vec_items l.bytes) ++ chunks_exact_rest l.two-iterator ≡ l.digits;
  bytes : Bytes (vec_items l.bytes);
  size : chunks_exact_size l.two-iterator ≡ 2;
}
