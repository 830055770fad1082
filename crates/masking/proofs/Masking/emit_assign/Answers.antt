-- The parts join to the masked assignment.
use Rattle.std.proofs.Common.{rules}
use Rattle.masking.proofs.Rules.{assign_on}
use Rattle.masking.proofs.Masking.emit_assign.Goals as goal

pub returns : goal.returns
returns c = search (assign_on, rules)
