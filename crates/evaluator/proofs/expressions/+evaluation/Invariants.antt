-- How deep the evaluation still goes: three calls at most for each level.
use Rattle.std.proofs.Common.{◌*◌, ◌+◌}
use Rattle.evaluator.proofs.expressions.+evaluation.Given as goal

abbrev pub decreases-evaluate : goal.decreases-evaluate
decreases-evaluate l = 3 * l.level + 1

abbrev pub decreases-evaluate_binary : goal.decreases-evaluate_binary
decreases-evaluate_binary l = 3 * l.level

abbrev pub decreases-evaluate_select : goal.decreases-evaluate_select
decreases-evaluate_select l = 3 * l.level

abbrev pub decreases-operand : goal.decreases-operand
decreases-operand l = 3 * l.level + 2
