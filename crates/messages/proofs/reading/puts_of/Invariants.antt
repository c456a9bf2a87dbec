use Rattle.std.proofs.Common.{◌≡◌, map, vec_items}
use Rattle.wire.specs.Answers.{puts_in}
use Rattle.wire.specs.Said.{bytes_left}
use Rattle.messages.specs.Meaning.{put_of}
use Rattle.messages.proofs.Puts.{after}
use Rattle.messages.proofs.reading.puts_of.Given as goal

abbrev pub invariant-loop-put : goal.invariant-loop-put
invariant-loop-put l = after (map put_of (vec_items l.all)) (puts_in (bytes_left l.put-iterator)) ≡ puts_in l.fn.puts.bytes.now
