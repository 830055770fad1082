-- In a secret context one word is written, else none.
use Rattle.std.proofs.Common.{rules}
use Rattle.masking.proofs.Rules.{old_on, old_none}
use Rattle.masking.proofs.Masking.emit_old_variable.Goals as goal

pub returns-then-is_secret : goal.returns-then-is_secret
returns-then-is_secret c = search (old_on, c.if-is_secret.ensures, rules)

pub returns-else-is_secret : goal.returns-else-is_secret
returns-else-is_secret c = search (old_none, c.if-is_secret.ensures, rules)
