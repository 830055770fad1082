-- A guarded procedure gets one more word, another none.
use Rattle.masking.proofs.Rules.{true_on, true_none}
use Rattle.masking.proofs.Call.emit_true.Goals as goal

pub returns-then-self : goal.returns-then-self
returns-then-self c = search true_on

pub returns-else-self : goal.returns-else-self
returns-else-self c = search true_none
