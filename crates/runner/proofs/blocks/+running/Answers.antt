-- What is left of the functions that run a body: what a call asks, and what a way out of a call gives.
use Rattle.std.proofs.Common.{arith}
use Rattle.std.proofs.lemmas.Result.{err_from_is_err_and}
use Rattle.simple_statements.proofs.PartRules.{place_near}
use Rattle.runner.proofs.BranchRules.{then_read, else_read, body_read}
use Rattle.runner.proofs.CallRules.{arguments_read, callee_below, callee_ready, call_stopped, call_full, callee_stopped, callee_gave}
use Rattle.runner.proofs.blocks.+running.Goals as goal

pub run_if-run_block-requires : goal.run_if-run_block-requires
run_if-run_block-requires t c = (
  omega (arith, c.requires.0.deep),
  (else_read _ _ _ _ _ c.requires.0 c.requires.2 _ _ _ _ _ c.in_ok-condition.ensures.answer _ c.block_end-other.ensures, c.requires.1),
)

pub run_if-run_block-requires-2 : goal.run_if-run_block-requires-2
run_if-run_block-requires-2 t c =
    (omega (arith, c.requires.0.deep), (then_read _ _ _ _ _ c.requires.0 c.requires.2 _ _ _ _ _ c.in_ok-condition.ensures.answer, c.requires.1))

pub run_for-run_passes-requires : goal.run_for-run_passes-requires
run_for-run_passes-requires t c =
    (omega (arith, c.requires.0.deep), (body_read _ _ _ _ _ c.requires.0 c.requires.2 _ _ _ _ _ c.in_ok-bounds.ensures.answer, c.requires.1))

pub run_call-arguments-requires : goal.run_call-arguments-requires
run_call-arguments-requires t c =
    arguments_read _ _ c.args.scope.now.program.table.now _ _ c.requires.0 c.requires.2 _ c.called-f.ensures.0 _ c.parameters-count.ensures

pub run_call-record-requires : goal.run_call-record-requires
run_call-record-requires t c = place_near _ _ _ c.args.scope.now.program.known c.requires.0.within

pub run_call-run_body-requires : goal.run_call-run_body-requires
run_call-run_body-requires t c =
    let low = callee_below _ _ c.args.scope.now.program.table.now _ _ c.requires.0 c.requires.2 _ c.called-f.ensures.0 in
    (omega arith, callee_ready _ _ _ _ _ c.requires.0 c.requires.2 _ c.called-f.ensures.0 _ c.requires.1)

pub run_call-returns-in_err-next-clause-answer : goal.run_call-returns-in_err-next-clause-answer
run_call-returns-in_err-next-clause-answer t c =
    let p = err_from_is_err_and c.from_residual.result c.from_residual.ensures.1 in
    rw (p.1, p.2) (call_stopped _ _ _ _ _ c.requires.0 c.requires.2 _ c.called-f.ensures.0 c.requires.1.listed _ _ _ _ _ _ c.parameters-count.ensures _ _ _ c.in_err-next.ensures.answer)

pub run_call-returns-in_err-record-clause-answer : goal.run_call-returns-in_err-record-clause-answer
run_call-returns-in_err-record-clause-answer t c =
    let p = err_from_is_err_and c.from_residual-in_err-record.result c.from_residual-in_err-record.ensures.1 in
    rw (p.1, p.2) (call_full _ _ _ _ _ c.requires.0 c.requires.2 _ c.called-f.ensures.0 c.requires.1.listed _ _ _ _ _ _ c.parameters-count.ensures
    _ _ _ c.in_ok-next.ensures.answer _ _ _ c.in_err-record.ensures.answer)

pub run_call-returns-in_err-value-clause-answer : goal.run_call-returns-in_err-value-clause-answer
run_call-returns-in_err-value-clause-answer t c =
    let p = err_from_is_err_and c.from_residual-in_err-value.result c.from_residual-in_err-value.ensures.1 in
    rw (p.1, p.2) (callee_stopped _ _ _ _ _ c.requires.0 c.requires.2 _ c.called-f.ensures.0 c.requires.1.listed _ _ _ _ _ _ c.parameters-count.ensures
    _ _ _ c.in_ok-next.ensures.answer _ _ c.in_ok-record.ensures.answer _ _ _ _ c.in_err-value.ensures.answer)

pub run_call-returns-clause-answer : goal.run_call-returns-clause-answer
run_call-returns-clause-answer t c =
    callee_gave _ _ _ _ _ c.requires.0 c.requires.2 _ c.called-f.ensures.0 c.requires.1.listed _ _ _ _ _ _ c.parameters-count.ensures
    _ _ _ c.in_ok-next.ensures.answer _ _ c.in_ok-record.ensures.answer _ _ _ _ c.in_ok-value.ensures.answer _ _ _ c.put.ensures c.wide.ensures.0 c.result.ensures.0
