-- In a secret context the word and the act join; else nothing is written.
use Rattle.std.proofs.Common.{rules}
use Rattle.masking.proofs.Rules.{prefix_on, prefix_none}
use Rattle.masking.proofs.Masking.emit_prefix.Goals as goal

pub returns-then-is_secret : goal.returns-then-is_secret
returns-then-is_secret c = search (prefix_on, c.if-is_secret.ensures, rules)

pub returns-else-is_secret : goal.returns-else-is_secret
returns-else-is_secret c = search (prefix_none, c.if-is_secret.ensures, rules)
