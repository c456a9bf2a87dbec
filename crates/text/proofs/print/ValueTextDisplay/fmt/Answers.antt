use Rattle.std.proofs.Common.{rules, ◌++◌, ◌∙◌}
use Rattle.std.proofs.Output.{has_written_append}
use Rattle.text.proofs.Digits.{chunk_more}
use Rattle.text.proofs.print.ValueTextDisplay.fmt.Goals as goal

pub loop-chunk-preserved : goal.loop-chunk-preserved
loop-chunk-preserved g c =
    let steps = c.in-Some.ensures.steps in
    record {
      size = steps.0 ∙ c.loop-chunk.invariant.size;
      wrote = λ plain.
          let before = c.loop-chunk.invariant.wrote plain in (
            before.0 ++ c.hex_text.result.now,
            has_written_append _ _ _ _ _ _ before.1 (search rules),
            chunk_more before.0 c.hex_text.result.now _ c.in-Some.chunk.now _ _ steps.1.0 c.hex_text.ensures before.2,
          );
    }
