-- What is left of the functions that evaluate an expression: that a call goes less deep, and that a place fits an entry.
use Rattle.std.proofs.Common.{arith}
use Rattle.evaluator.proofs.Rules.{place_small, index_there, operand_there, left_there, condition_there, unary_got, select_done}
use Rattle.evaluator.proofs.expressions.+evaluation.Goals as goal

pub evaluate-operand-requires : goal.evaluate-operand-requires
evaluate-operand-requires t c = (omega (arith, c.requires.deep), index_there _ _ _ c.requires c.in-Cell.ensures)

pub evaluate-cell_at-requires : goal.evaluate-cell_at-requires
evaluate-cell_at-requires t c = place_small _ _ _ _ c.requires c.args.memory.now.program.known

pub evaluate-operand-requires-in-Unary : goal.evaluate-operand-requires-in-Unary
evaluate-operand-requires-in-Unary t c = (omega (arith, c.requires.deep), operand_there _ _ _ c.requires c.in-Unary.ensures)

pub evaluate-returns-in_ok-a-in-Unary-clause-answer : goal.evaluate-returns-in_ok-a-in-Unary-clause-answer
evaluate-returns-in_ok-a-in-Unary-clause-answer t c =
    unary_got _ _ _ c.requires _ _ _ _ c.in-Unary.ensures _ _ _ _ c.in_ok-a-in-Unary.ensures.answer c.apply_unary.ensures c.payload-p.ensures.0

pub evaluate_binary-overflow_add-at : goal.evaluate_binary-overflow_add-at
evaluate_binary-overflow_add-at t c = omega (arith, place_small _ _ _ _ c.requires.0 c.args.memory.now.program.known)

pub evaluate_binary-operand-requires : goal.evaluate_binary-operand-requires
evaluate_binary-operand-requires t c = (omega (arith, c.requires.0.deep), left_there _ _ _ c.requires.0 c.requires.1)

pub evaluate_binary-operate-requires : goal.evaluate_binary-operate-requires
evaluate_binary-operate-requires t c = place_small _ _ _ _ c.requires.0 c.args.memory.now.program.known

pub evaluate_select-overflow_add-at : goal.evaluate_select-overflow_add-at
evaluate_select-overflow_add-at t c = omega (arith, place_small _ _ _ _ c.requires.0 c.args.memory.now.program.known)

pub evaluate_select-operand-requires : goal.evaluate_select-operand-requires
evaluate_select-operand-requires t c = (omega (arith, c.requires.0.deep), condition_there _ _ _ c.requires.0 c.requires.1)

pub evaluate_select-returns-clause-answer : goal.evaluate_select-returns-clause-answer
evaluate_select-returns-clause-answer t c =
    select_done _ _ _ c.requires.0 _ _ _ _ c.requires.1 _ _ c.in_ok-condition.ensures.answer _ _ c.in_ok-first.ensures.answer _ _ _ c.in_ok-second.ensures.answer
    c.choose.ensures
