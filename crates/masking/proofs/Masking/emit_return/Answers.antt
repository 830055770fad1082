-- The parts join to the return, deferred or not.
use Rattle.std.proofs.Common.{rules}
use Rattle.masking.proofs.Rules.{return_on, return_plain}
use Rattle.masking.proofs.Masking.emit_return.Goals as goal

pub returns-then-is_secret : goal.returns-then-is_secret
returns-then-is_secret c = (search (return_on, c.if-is_secret.ensures), search rules, search rules, search rules)

pub returns : goal.returns
returns c = (search (return_plain, c.if-is_secret.ensures), search rules, search rules, search rules)
