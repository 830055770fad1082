-- An index is judged as the lemma says.
use Rattle.std.proofs.Common.{rules}
use Rattle.labels.proofs.OperandRules.{index_noted_lem}
use Rattle.labels.proofs.expressions.note_index.Goals as goal

pub returns : goal.returns
returns c = search (index_noted_lem, rules)
