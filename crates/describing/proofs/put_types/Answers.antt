-- One type more is written; at the end none is left.
use Rattle.describing.proofs.Rules.{types_done, types_more}
use Rattle.describing.proofs.put_types.Goals as goal

pub loop-k-preserved : goal.loop-k-preserved
loop-k-preserved c = (
  types_more _ c.loop-k.k _ _ _ c.loop-k.invariant.0 c.loop-k-test.true _ _ _ c.parameter_type.ensures c.put.ensures.0,
  (cc),
)

pub returns : goal.returns
returns c = (types_done _ c.loop-k.k _ _ _ c.loop-k.invariant.0 c.loop-k-test.false, c.loop-k.invariant.1)
