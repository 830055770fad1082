-- The number of a cell fits a word.
use Rattle.std.proofs.Common.{arith}
use Rattle.evaluator.proofs.Leaves.{index_fits}
use Rattle.evaluator.proofs.operations.index_at.Goals as goal

pub overflow_add-result : goal.overflow_add-result
overflow_add-result c = omega (
  arith,
  index_fits _ _ _ _ _ _ c.requires.0 c.array.ensures c.array_length.ensures.0 c.if-i-array_length.true c.base.ensures
      c.array_length.ensures.1,
)
