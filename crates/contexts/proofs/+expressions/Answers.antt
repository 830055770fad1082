-- What each call asks: fewer levels, and an expression that was read.
use Rattle.std.proofs.Common.{rules}
use Rattle.contexts.proofs.Sight.{seeing}
use Rattle.contexts.proofs.+expressions.Goals as goal

pub secret_expression-secret_expression-i-requires :
    goal.secret_expression-secret_expression-i-requires
secret_expression-secret_expression-i-requires t c = search (seeing, c.in-Cell.ensures, rules)

pub secret_expression-secret_expression-requires :
    goal.secret_expression-secret_expression-requires
secret_expression-secret_expression-requires t c = search (seeing, c.in-Unary.ensures, rules)

pub secret_expression-secret_two-requires : goal.secret_expression-secret_two-requires
secret_expression-secret_two-requires t c = search (seeing, c.in-Binary.ensures, rules)

pub secret_expression-secret_expression-c-requires :
    goal.secret_expression-secret_expression-c-requires
secret_expression-secret_expression-c-requires t c = search (seeing, c.in-Select.ensures, rules)

pub secret_expression-secret_two-v-requires : goal.secret_expression-secret_two-v-requires
secret_expression-secret_two-v-requires t c = search (seeing, c.in-Select.ensures, rules)

pub secret_two-secret_expression-f-requires : goal.secret_two-secret_expression-f-requires
secret_two-secret_expression-f-requires t c = search (seeing, rules)
