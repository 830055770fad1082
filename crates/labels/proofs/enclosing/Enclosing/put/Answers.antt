-- Past the last variable nothing is put.
use Rattle.std.proofs.Common.{rules}
use Rattle.labels.proofs.EnclosingRules.{loop_kept}
use Rattle.labels.proofs.enclosing.Enclosing.put.Goals as goal

pub returns-clause-after : goal.returns-clause-after
returns-clause-after c = search (loop_kept, rules)
