-- `machine::runs::call_on`: refused twice, or run.
use Rattle.std.proofs.Common.{arith}
use Rattle.machine.proofs.CallRules.{call_none, call_count, call_ready, call_ran}
use Rattle.machine.proofs.runs.call_on.Goals as goal

pub returns-then-procedures-call : goal.returns-then-procedures-call
returns-then-procedures-call c = call_none _ _ _ _ _ _ _ (omega arith) c.number.ensures

pub returns-then-call-wide : goal.returns-then-call-wide
returns-then-call-wide c =
    call_count _ _ _ _ _ _ _ c.args.program.known (omega arith) _ c.parameters.ensures c.wide.ensures.0 c.if-call-wide.true c.number-then-call-wide.ensures

pub run-requires : goal.run-requires
run-requires c = (call_ready c.args.program.known (omega arith) c.requires, omega arith)

pub returns : goal.returns
returns c =
    call_ran _ _ _ _ _ _ 0 c.args.program.known (omega arith) _ c.parameters.ensures c.wide.ensures.0 c.if-call-wide.false _ _ _ c.run.ensures
