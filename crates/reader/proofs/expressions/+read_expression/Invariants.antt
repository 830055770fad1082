-- The measure of `read_expression`: the levels that are left.
use Rattle.reader.proofs.expressions.+read_expression.Given as goal

abbrev pub decreases-read_expression : goal.decreases-read_expression
decreases-read_expression l = l.level
