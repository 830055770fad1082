-- The value of a store stands where its index ends.
use Rattle.std.proofs.Common.{refl}
use Rattle.image_words.specs.StatementParts.{read_store}
use Rattle.sorts.proofs.ExpressionRules.{second_fine}
use Rattle.sorts.proofs.leaves.check_store.Goals as goal

pub check_operand-e-requires : goal.check_operand-e-requires
check_operand-e-requires c = second_fine _ _ _ _ _ _ _ _ _ c.check_operand-i.ensures (read_store _ _ _ _ _ c.requires.0.read _ refl c.requires.1)
