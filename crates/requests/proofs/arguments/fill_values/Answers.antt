-- One value more stands in the array.
use Rattle.std.proofs.Common.{arith}
use Rattle.requests.proofs.ArgumentRules.{filling_more}
use Rattle.requests.proofs.arguments.fill_values.Goals as goal

pub loop-k-preserved : goal.loop-k-preserved
loop-k-preserved c =
    filling_more _ _ _ _ _ _ c.loop-k.invariant c.loop-k-test.true c.requires.0 (omega arith) c.word.ensures c.answer_of.ensures
