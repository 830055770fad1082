-- A store's value stands behind its index.
use Rattle.std.proofs.Common.{rules}
use Rattle.labels.proofs.LeafRules.{fine}
use Rattle.labels.proofs.leaves.label_store.Goals as goal

pub label_expression-stored-requires : goal.label_expression-stored-requires
label_expression-stored-requires c = search (fine, rules)
