-- The parts join to the statement that sets E.
use Rattle.std.proofs.Common.{rules}
use Rattle.masking.proofs.Rules.{negation_on}
use Rattle.masking.proofs.Masking.emit_negation.Goals as goal

pub returns : goal.returns
returns c = search (negation_on, rules)
