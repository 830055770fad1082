-- The parts of one kind stand below an expression of their level, and the pair above.
use Rattle.std.proofs.Common.{◌*◌, ◌+◌}
use Rattle.labels.proofs.expressions.+parts.Given as goal

abbrev pub decreases-label_binary : goal.decreases-label_binary
decreases-label_binary l = 3 * l.level

abbrev pub decreases-label_cell : goal.decreases-label_cell
decreases-label_cell l = 3 * l.level

abbrev pub decreases-label_expression : goal.decreases-label_expression
decreases-label_expression l = 3 * l.level + 1

abbrev pub decreases-label_select : goal.decreases-label_select
decreases-label_select l = 3 * l.level

abbrev pub decreases-label_two : goal.decreases-label_two
decreases-label_two l = 3 * l.level + 2
