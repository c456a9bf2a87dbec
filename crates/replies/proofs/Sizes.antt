-- How long an answer is at most.
use Rattle.std.proofs.Common.{◌≡◌, ◌+◌, ◌≤◌, length, arith}
use Rattle.model.specs.Put.{Put, Body, text, value_of}
use Rattle.wire.specs.Bytes.{write_body, write_item}
use Rattle.wire.proofs.Views.{length_clock}
use Rattle.replies.specs.Written.{item_most}

body_size : (b : Body) → length (write_body b) ≡ 9 + length (value_of b)
body_size (text k v) = omega arith

-- a put of sixteen replicas with a value in range
pub item_size : (p : Put Body) → length p.seen ≤ 16 → length (value_of p.body) ≤ 64 → length (write_item p) ≤ item_most
item_size p few short = omega (arith, length_clock p.seen (write_body p.body), body_size p.body)
