-- The calls go down by the level; a function at one level comes below the one that it serves.
use Rattle.std.proofs.Common.{◌+◌, ◌*◌}
use Rattle.copying.proofs.Source.+copies.Given as goal

abbrev pub decreases-copy_expression : goal.decreases-copy_expression
decreases-copy_expression l = 3 * l.level + 1

abbrev pub decreases-copy_select : goal.decreases-copy_select
decreases-copy_select l = 3 * l.level

abbrev pub decreases-copy_two : goal.decreases-copy_two
decreases-copy_two l = 3 * l.level + 2
