-- Rounds of asking can always be carried out by calls on bytes.
use Rattle.std.proofs.Common.{◌≡◌, ℕ, ◌%◌, ◌/◌, true, ltb, List, [], ◌∷◌, ◌++◌, refl, arith}
use Rattle.std.proofs.lemmas.Nat.{mod_below}
use Rattle.std.proofs.lemmas.Bool.{and_from, and_parts, lt-ltb}
use Rattle.model.specs.Clock.{Clock}
use Rattle.model.specs.Put.{Put, Body, text, value_of}
use Rattle.model.specs.Program.{all_below, byte_bound}
use Rattle.wire.specs.Bytes.{write_body, write_clock, write_counts, write_number, write_put}
use Rattle.wire.specs.Theorems.{AllBytes}

-- WRITTEN BYTES ARE BYTES
bytes_both : (xs ys : List ℕ) → AllBytes xs → AllBytes ys → AllBytes (xs ++ ys)
unfolding all_below
bytes_both [] ys a b = b
bytes_both (x ∷ xs) ys a b = let p = and_parts (ltb x byte_bound) (all_below byte_bound xs) a in and_from _ _ p.0 (bytes_both xs ys p.1 b)

a_byte : (n : ℕ) → ltb (n % 256) 256 ≡ true
a_byte n = lt-ltb (n % 256) 256 (mod_below n 256 (omega arith))

number_bytes : (n : ℕ) → AllBytes (write_number n)
unfolding all_below
number_bytes n =
    and_from _ _ (a_byte n) (and_from _ _ (a_byte (n / 256)) (and_from _ _ (a_byte (n / 65536)) (and_from _ _ (a_byte (n / 16777216)) (and_from _ _ (a_byte (n / 4294967296)) (and_from _ _ (a_byte (n / 1099511627776)) (and_from _ _ (a_byte (n / 281474976710656)) (and_from _ _ (a_byte (n / 72057594037927936)) refl)))))))

counts_bytes : (c : Clock) → AllBytes (write_counts c)
unfolding all_below write_counts
counts_bytes [] = refl
counts_bytes (n ∷ c) = bytes_both (write_number n) (write_counts c) (number_bytes n) (counts_bytes c)

clock_bytes : (c : Clock) (s : List ℕ) → AllBytes s → AllBytes (write_clock c s)
unfolding all_below
clock_bytes c s a = bytes_both (write_counts c) (0 ∷ s) (counts_bytes c) a

put_bytes : (p : Put Body) → AllBytes (value_of p.body) → AllBytes (write_put p)
unfolding all_below
put_bytes p a = bytes_both (write_number p.from) (write_clock p.seen (write_body p.body)) (number_bytes p.from) (clock_bytes p.seen (write_body p.body) (body_bytes p.body a))
  where
    body_bytes : (b : Body) → AllBytes (value_of b) → AllBytes (write_body b)
    body_bytes (text k v) a = bytes_both (write_number k) v (number_bytes k) a
