-- What each call asks: fewer levels, and an expression that was read.
use Rattle.std.proofs.Common.{rules}
use Rattle.labels.proofs.ExpressionRules.{fine, cell_labelled, binary_labelled}
use Rattle.labels.proofs.expressions.+parts.Goals as goal

pub label_binary-label_expression-e-requires : goal.label_binary-label_expression-e-requires
label_binary-label_expression-e-requires t c = search (fine, rules)

pub label_binary-label_expression-f-requires : goal.label_binary-label_expression-f-requires
label_binary-label_expression-f-requires t c = search (fine, rules)

pub label_binary-returns : goal.label_binary-returns
label_binary-returns t c = search (binary_labelled, rules)

pub label_cell-label_expression-i-requires : goal.label_cell-label_expression-i-requires
label_cell-label_expression-i-requires t c = search (fine, rules)

pub label_cell-returns : goal.label_cell-returns
label_cell-returns t c = search (cell_labelled, rules)

pub label_expression-label_expression-requires : goal.label_expression-label_expression-requires
label_expression-label_expression-requires t c = search (fine, c.in-Unary.ensures, rules)

pub label_select-label_expression-c-requires : goal.label_select-label_expression-c-requires
label_select-label_expression-c-requires t c = search (fine, rules)

pub label_select-label_two-v-requires : goal.label_select-label_two-v-requires
label_select-label_two-v-requires t c = search (fine, rules)

pub label_two-label_expression-f-requires : goal.label_two-label_expression-f-requires
label_two-label_expression-f-requires t c = search (fine, rules)
