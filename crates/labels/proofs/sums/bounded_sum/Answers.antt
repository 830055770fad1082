-- A variable and a constant are a sum as the lemma says.
use Rattle.labels.proofs.SumRules.{sum_taken}
use Rattle.labels.proofs.sums.bounded_sum.Goals as goal

pub returns-then-begins : goal.returns-then-begins
returns-then-begins c =
    sum_taken _ _ _ _ _ _ _ _ _ _ _ c.in-Some.ensures.constant c.in-Some.ensures.value c.element-w.ensures c.begins.ensures c.if-begins.true
    c.payload.ensures.0 c.around.ensures c.sum_below.ensures
