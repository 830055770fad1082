-- The measures of the functions that walk expressions, by the levels that are left.
use Rattle.std.proofs.Common.{◌+◌, ◌*◌}
use Rattle.sorts.proofs.expressions.Walk.+operands.Given as goal

abbrev pub decreases-check_binary : goal.decreases-check_binary
decreases-check_binary l = 3 * l.level

abbrev pub decreases-check_cell : goal.decreases-check_cell
decreases-check_cell l = 3 * l.level

abbrev pub decreases-check_expression : goal.decreases-check_expression
decreases-check_expression l = 3 * l.level + 1

abbrev pub decreases-check_operand : goal.decreases-check_operand
decreases-check_operand l = 3 * l.level + 2

abbrev pub decreases-check_select : goal.decreases-check_select
decreases-check_select l = 3 * l.level

abbrev pub decreases-check_unary : goal.decreases-check_unary
decreases-check_unary l = 3 * l.level
