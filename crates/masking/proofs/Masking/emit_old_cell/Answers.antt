-- In a secret context the word and the index join to the cell; else nothing is written.
use Rattle.std.proofs.Common.{rules}
use Rattle.masking.proofs.Rules.{cell_on, cell_none}
use Rattle.masking.proofs.Masking.emit_old_cell.Goals as goal

pub returns-then-is_secret : goal.returns-then-is_secret
returns-then-is_secret c = search (cell_on, c.if-is_secret.ensures, rules)

pub returns-else-is_secret : goal.returns-else-is_secret
returns-else-is_secret c = search (cell_none, c.if-is_secret.ensures, rules)
