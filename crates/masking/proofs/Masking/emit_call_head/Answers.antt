-- The head of a call and its values join to the words of both.
use Rattle.std.proofs.Common.{rules}
use Rattle.masking.proofs.Rules.{call_head_lem}
use Rattle.masking.proofs.Masking.emit_call_head.Goals as goal

pub returns : goal.returns
returns c = search (call_head_lem, rules)
