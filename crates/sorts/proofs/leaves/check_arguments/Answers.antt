-- What the loop over the values of a call keeps.
use Rattle.std.proofs.Common.{arith}
use Rattle.image_words.specs.Rest.{next_argument}
use Rattle.sorts.proofs.StatementRules.{arguments_again, arguments_more}
use Rattle.sorts.proofs.leaves.check_arguments.Goals as goal

pub check_operand-e-requires : goal.check_operand-e-requires
check_operand-e-requires c = next_argument _ _ _ _ _ c.loop-k.invariant.1 c.loop-k-test.true

pub loop-k-preserved : goal.loop-k-preserved
loop-k-preserved c = (
  omega arith,
  rw c.from-walked.ensures (arguments_again _ _ _ c.args.callee.now _ _ _ _ _ _ c.loop-k.invariant.1 c.loop-k-test.true _ _ c.check_operand-e.ensures),
  rw c.from-walked.ensures (arguments_more _ _ _ _ _ _ _ _ _ _ _ c.loop-k.invariant.2 c.loop-k.invariant.1 c.loop-k-test.true _ _ c.variable_sort-want.ensures c.check_operand-e.ensures),
)
