use Rattle.std.proofs.Common.{◌≡◌, ◌*◌, ◌/◌, [], length, get_or, ap, ◌∙◌, sym, w64, rules, arith}
use Rattle.std.specs.Int.{from_le_bytes}
use Rattle.std.specs.Simd.{first_chunks}
use Rattle.std.proofs.lemmas.List.FromFn.{fill_by_all}
use Rattle.puts.specs.Words.{pack_at, packed}
use Rattle.puts.proofs.Bytes.{made_at, chunk_is, word_is}
use Rattle.puts.proofs.words.pack.Goals as goal
use borrow.Author.Tests.{tests}

pub returns : goal.returns
unfolding packed pack_at
returns c =
    let bs = c.args.bytes.now in
    let made = made_at _ (λ k. from_le_bytes w64 (get_or c.as_chunks.result.0.now k [])) _ c.from_fn.result 8 0 (λ k y q h e. search (rules, tests)) c.from_fn.ensures.items.each in
    let n : length bs / 8 ≡ 8 = omega arith in
    fill_by_all (pack_at bs) c.from_fn.result 8 0 c.from_fn.ensures.items.long
    (λ k h. made k (omega arith) h ∙ ap (from_le_bytes w64) (ap (λ t. get_or t k []) (c.as_chunks.ensures.front ∙ ap (λ n. first_chunks 8 n bs) n) ∙ chunk_is bs 8 k h) ∙ sym (word_is bs (8 * k)))
