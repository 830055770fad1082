-- The head and what follows it join to the call.
use Rattle.std.proofs.Common.{rules}
use Rattle.masking.proofs.Rules.{call_secret, call_public}
use Rattle.masking.proofs.Masking.emit_call.Goals as goal

pub returns-then-is_secret : goal.returns-then-is_secret
returns-then-is_secret c = (search (call_secret, c.if-is_secret.ensures), search rules, search rules, search rules)

pub returns : goal.returns
returns c = (search (call_public, c.if-is_secret.ensures), search rules, search rules, search rules)
