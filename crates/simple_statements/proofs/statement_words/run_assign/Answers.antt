-- The value goes to the variable.
use Rattle.simple_statements.proofs.StatementRules.{assign_done}
use Rattle.simple_statements.proofs.statement_words.run_assign.Goals as goal

pub returns-clause-answer : goal.returns-clause-answer
returns-clause-answer c =
    assign_done _ _ _ _ _ c.requires.0 _ _ _ _ _ c.requires.1 _ _ c.in_ok-value.ensures.answer _ _ _ c.put.ensures c.wide.ensures.0
    c.target-x.ensures.0
