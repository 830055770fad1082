-- The act is what the two booleans make of it.
use Rattle.std.proofs.Common.{rules}
use Rattle.masking.proofs.Rules.{act·rules}
use Rattle.masking.proofs.Masking.emit_act.Goals as goal

pub returns-in-true-true : goal.returns-in-true-true
returns-in-true-true c = search (act·rules, rules)

pub returns-in-true-false : goal.returns-in-true-false
returns-in-true-false c = search (act·rules, rules)

pub returns-in-false-default : goal.returns-in-false-default
returns-in-false-default c = search (act·rules, rules)
