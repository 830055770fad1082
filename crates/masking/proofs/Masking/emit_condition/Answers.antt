-- The parts join to the statements that set T and E.
use Rattle.std.proofs.Common.{rules}
use Rattle.masking.proofs.Rules.{condition_on}
use Rattle.masking.proofs.Masking.emit_condition.Goals as goal

pub returns : goal.returns
returns c = search (condition_on, rules)
