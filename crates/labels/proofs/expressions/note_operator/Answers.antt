-- The operands are judged as the lemma says.
use Rattle.std.proofs.Common.{◌∙◌}
use Rattle.labels.proofs.OperandRules.{operator_noted_lem}
use Rattle.labels.proofs.expressions.note_operator.Goals as goal

pub returns : goal.returns
returns c =
    operator_noted_lem _ _ _ _ _ _ _ _ _ _ _ _ _ _ _ (c.unwrap_or-divisor.ensures ∙ c.constant_at.ensures.value) c.eq-both.ensures c.ne-some.ensures
    c.noted-first.ensures c.noted-second.ensures c.noted.ensures
