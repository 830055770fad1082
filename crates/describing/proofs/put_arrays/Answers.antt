-- One array more is written; at the end none is left.
use Rattle.std.proofs.Common.{◌∙◌}
use Rattle.describing.proofs.Rules.{arrays_done, arrays_more}
use Rattle.describing.proofs.put_arrays.Goals as goal

pub loop-a-preserved : goal.loop-a-preserved
loop-a-preserved c = (
  arrays_more _ _ c.args.program.known c.loop-a.a _ _ _ c.loop-a.invariant.0 _ (c.narrow-a-end.ensures ∙ c.array_count.ensures.0) c.loop-a-test.true
      _ c.array.ensures _ _ c.put_array.ensures.0,
  (cc),
)

pub returns : goal.returns
returns c = (arrays_done _ _ c.args.program.known c.loop-a.a _ _ _ c.loop-a.invariant.0 _ (c.narrow-a-end.ensures ∙ c.array_count.ensures.0) c.loop-a-test.false, c.loop-a.invariant.1)
