-- The value goes to the cell.
use Rattle.simple_statements.proofs.StatementRules.{store_done}
use Rattle.simple_statements.proofs.statement_words.run_store.Goals as goal

pub returns-clause-answer : goal.returns-clause-answer
returns-clause-answer c =
    store_done _ _ _ _ _ c.requires.0 _ _ _ _ _ c.requires.1 _ c.args.scope.now.program.known _ c.target-array.ensures.0 _ _
    c.in_ok-cell.ensures.answer _ _ _ _ c.in_ok-value.ensures.answer c.put.ensures c.wide.ensures.0
