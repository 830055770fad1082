-- What the functions that walk expressions ask of one another, and what a binary operator's walk returns.
use Rattle.std.proofs.Common.{arith, refl}
use Rattle.image_words.specs.Parts.{read_cell, read_unary, read_binary, read_condition}
use Rattle.sorts.proofs.ExpressionRules.{second_fine, value_fine, values_fine, binary_returns}
use Rattle.sorts.proofs.expressions.Walk.+operands.Goals as goal

pub check_binary-check_operand-e-requires : goal.check_binary-check_operand-e-requires
check_binary-check_operand-e-requires t c = (omega arith, (read_binary _ _ _ c.requires.0.read _ refl c.requires.1).first)

pub check_binary-check_operand-f-requires : goal.check_binary-check_operand-f-requires
check_binary-check_operand-f-requires t c = (omega arith, second_fine _ _ _ _ _ _ _ _ _ c.check_operand-e.ensures (read_binary _ _ _ c.requires.0.read _ refl c.requires.1))

pub check_binary-returns : goal.check_binary-returns
check_binary-returns t c =
    binary_returns _ _ _ _ _ _ _ c.requires.0.read _ _ c.payload.ensures.0 c.of-operator.ensures _ _ _ c.check_operand-e.ensures c.requires.1 _ c.operands.ensures c.result.ensures
    c.check_operand-f.ensures

pub check_cell-check_operand-i-requires : goal.check_cell-check_operand-i-requires
check_cell-check_operand-i-requires t c = (omega arith, read_cell _ _ _ c.requires.0.read _ refl c.requires.1)

pub check_select-check_operand-c-requires : goal.check_select-check_operand-c-requires
check_select-check_operand-c-requires t c = (omega arith, read_condition _ _ _ c.requires.0.read _ refl c.requires.1)

pub check_select-check_expression-e-requires : goal.check_select-check_expression-e-requires
check_select-check_expression-e-requires t c = (omega arith, (values_fine _ _ _ _ _ _ _ c.requires.0.read c.requires.1 _ c.check_operand-c.ensures).first)

pub check_select-check_operand-f-requires : goal.check_select-check_operand-f-requires
check_select-check_operand-f-requires t c = (omega arith, value_fine _ _ _ _ _ _ _ _ c.check_expression-e.ensures (values_fine _ _ _ _ _ _ _ c.requires.0.read c.requires.1 _ c.check_operand-c.ensures))

pub check_unary-check_operand-e-requires : goal.check_unary-check_operand-e-requires
check_unary-check_operand-e-requires t c = (omega arith, read_unary _ _ _ c.requires.0.read _ refl c.requires.1)
