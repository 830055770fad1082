-- What the functions that mark loop variables ask of the functions that they call, and what they return.
use Rattle.std.proofs.Common.{arith, refl}
use Rattle.image_words.specs.StatementParts.{read_store, read_if, read_bounds}
use Rattle.image_words.specs.Skipping.{skip_expression, skip_pair}
use Rattle.image_words.specs.Rest.{call_skips}
use Rattle.sorts.proofs.MarkRules.{single_skips, single_marks, call_marks, then_marked, else_marked, if_marks, body_marked, for_marks, marks_again, marks_more}
use Rattle.sorts.proofs.marks.+marking.Goals as goal

pub mark_block-loop-preserved : goal.mark_block-loop-preserved
mark_block-loop-preserved t c = (
  omega arith,
  marks_again _ _ _ _ _ _ _ _ c.loop.invariant.1 c.loop-test.true _ _ c.mark_statement-a.ensures,
  marks_more _ _ _ _ _ _ _ _ _ c.loop.invariant.2 c.loop.invariant.1 c.loop-test.true _ _ c.mark_statement-a.ensures,
)

pub mark_statement-skip-requires : goal.mark_statement-skip-requires
mark_statement-skip-requires t c = single_skips _ _ _ _ _ c.requires.read _ c.of.ensures c.in-Assign.is

pub mark_statement-returns-in-Assign : goal.mark_statement-returns-in-Assign
mark_statement-returns-in-Assign t c = single_marks _ _ _ _ _ c.requires.read _ c.of.ensures c.in-Assign.is _ _ c.skip.ensures

pub mark_statement-skip-requires-in-Store : goal.mark_statement-skip-requires-in-Store
mark_statement-skip-requires-in-Store t c = skip_pair _ _ _ (read_store _ _ _ _ _ c.requires.read _ refl c.in-Store.ensures)

pub mark_statement-skip-c-requires : goal.mark_statement-skip-c-requires
mark_statement-skip-c-requires t c = skip_expression _ _ _ (read_if _ _ _ _ _ c.requires.read _ refl c.in-If.ensures).read

pub mark_statement-mark_block-a-requires : goal.mark_statement-mark_block-a-requires
mark_statement-mark_block-a-requires t c = (omega arith, then_marked _ _ _ _ _ c.requires.read c.in-If.ensures _ c.skip-c.ensures)

pub mark_statement-mark_block-requires : goal.mark_statement-mark_block-requires
mark_statement-mark_block-requires t c = (omega arith, else_marked _ _ _ _ _ c.requires.read c.in-If.ensures _ c.skip-c.ensures _ _ _ c.mark_block-a.ensures)

pub mark_statement-returns-in-If : goal.mark_statement-returns-in-If
mark_statement-returns-in-If t c = if_marks _ _ _ _ _ c.requires.read c.in-If.ensures _ c.skip-c.ensures _ _ _ c.mark_block-a.ensures _ _ c.mark_block.ensures

pub mark_statement-skip-body-requires : goal.mark_statement-skip-body-requires
mark_statement-skip-body-requires t c = skip_pair _ _ _ (read_bounds _ _ _ _ _ c.requires.read _ refl c.in-For.ensures)

pub mark_statement-mark_block-requires-in-For : goal.mark_statement-mark_block-requires-in-For
mark_statement-mark_block-requires-in-For t c = (omega arith, body_marked _ _ _ _ _ c.requires.read c.in-For.ensures _ c.skip-body.ensures)

pub mark_statement-returns-in-For : goal.mark_statement-returns-in-For
mark_statement-returns-in-For t c = for_marks _ _ _ _ _ c.requires.read c.in-For.ensures _ c.skip-body.ensures _ _ _ _ _ _ c.target.ensures.0 refl c.put.ensures c.mark_block-in-For.ensures

pub mark_statement-skip-requires-in-Call : goal.mark_statement-skip-requires-in-Call
mark_statement-skip-requires-in-Call t c =
    call_skips _ _ _ _ _ c.requires.read _ refl c.in-Call.ensures _ _ _ c.called.ensures.0 c.parameters.ensures c.wide.ensures.0

pub mark_statement-returns-in-Call : goal.mark_statement-returns-in-Call
mark_statement-returns-in-Call t c =
    call_marks _ _ _ _ _ c.requires.read c.in-Call.ensures _ _ _ c.called.ensures.0 c.parameters.ensures c.wide.ensures.0 _ _ c.skip-in-Call.ensures
