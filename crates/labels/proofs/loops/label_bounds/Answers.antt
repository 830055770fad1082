-- The second bound stands behind the first.
use Rattle.std.proofs.Common.{rules}
use Rattle.labels.proofs.LoopRules.{to_fine, bounds_labelled}
use Rattle.labels.proofs.loops.label_bounds.Goals as goal

pub label_bound-to-requires : goal.label_bound-to-requires
label_bound-to-requires c = search (to_fine, rules)

pub returns : goal.returns
returns c = search (bounds_labelled, rules)
