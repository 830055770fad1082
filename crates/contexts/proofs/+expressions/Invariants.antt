-- Each call goes one level down, and the pair stands above its two expressions.
use Rattle.std.proofs.Common.{◌*◌, ◌+◌}
use Rattle.contexts.proofs.+expressions.Given as goal

abbrev pub decreases-secret_expression : goal.decreases-secret_expression
decreases-secret_expression l = 2 * l.level

abbrev pub decreases-secret_two : goal.decreases-secret_two
decreases-secret_two l = 2 * l.level + 1
