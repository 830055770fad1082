-- Each turn evaluates the next value and stores it.
use Rattle.simple_statements.proofs.ArgumentRules.{argument_read, arguments_done, arguments_ok, arguments_more}
use Rattle.simple_statements.proofs.parts.arguments.Goals as goal

pub operand-requires : goal.operand-requires
operand-requires c = argument_read _ _ _ _ _ c.loop-k-test.true c.loop-k.invariant.readable

pub loop-k-preserved : goal.loop-k-preserved
loop-k-preserved c = record {
  same = cc;
  readable = arguments_ok _ _ _ _ _ c.loop-k-test.true c.loop-k.invariant.readable _ _ _ _ _ _ c.in_ok-value.ensures.answer;
  left =
      arguments_more _ _ _ _ _ c.loop-k-test.true c.loop-k.invariant.readable _ _ _ _ _ _ c.loop-k.invariant.left _ _
      c.in_ok-value.ensures.answer _ _ c.put.ensures c.wide.ensures.0;
}

pub returns-clause-answer : goal.returns-clause-answer
returns-clause-answer c = arguments_done _ _ _ _ _ _ _ _ _ _ _ c.loop-k.invariant.left c.loop-k-test.false
