-- The parts join to the choice.
use Rattle.std.proofs.Common.{rules}
use Rattle.masking.proofs.Rules.{selected_on}
use Rattle.masking.proofs.Masking.emit_selected.Goals as goal

pub returns : goal.returns
returns c = search (selected_on, rules)
