-- The act and the choice behind it join.
use Rattle.std.proofs.Common.{rules}
use Rattle.masking.proofs.Rules.{tail_on}
use Rattle.masking.proofs.Masking.emit_call_tail.Goals as goal

pub returns : goal.returns
returns c = search (tail_on, rules)
