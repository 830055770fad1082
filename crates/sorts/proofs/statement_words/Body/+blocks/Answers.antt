-- What the functions that judge statements ask of the functions that they call, and what they return.
use Rattle.std.proofs.Common.{arith, refl, ap, ◌∙◌}
use Rattle.laws.specs.ImageIn.{procedures_in}
use Rattle.image_words.specs.StatementParts.{read_if, read_bounds}
use Rattle.image_words.specs.Rest.{block_ready, block_begins}
use Rattle.tables.specs.Table.{array_count_in}
use Rattle.faults.specs.Parts.{put_back}
use Rattle.sorts.specs.Walk.{block_walked}
use Rattle.sorts.proofs.ExpressionRules.{second_fine}
use Rattle.sorts.proofs.BlockRules.{block_done, block_again, block_more, then_fine, else_fine, if_returns, body_fine, for_returns}
use Rattle.sorts.proofs.statement_words.Body.+blocks.Goals as goal

pub check_block-loop-init : goal.check_block-loop-init
check_block-loop-init t c = (
  omega arith,
  refl,
  block_ready _ _ _ _ _ c.requires.read _ c.payload-count.ensures.0,
  ap (λ z. block_walked (procedures_in c.args.self.words.image.now) c.args.self.words.types.now (array_count_in c.args.self.words.table.now) c.args.marks.now c.args.self.scope c.args.best z)
      (block_begins _ _ _ _ _ c.requires.read _ c.payload-count.ensures.0),
)

pub check_block-loop-preserved : goal.check_block-loop-preserved
check_block-loop-preserved t c = (
  omega arith,
  c.check_statement-walked.ensures.1 ∙ c.loop.invariant.1,
  block_again _ _ _ _ _ _ _ _ _ _ _ _ _ c.loop.invariant.2 c.loop-test.true _ c.check_statement-walked.ensures.0,
  block_more _ _ _ _ _ _ _ _ _ _ _ _ _ _ c.loop.invariant.3 c.loop.invariant.2 c.loop-test.true _ _ c.check_statement-walked.ensures.0 c.check_statement-walked.ensures.1,
)

pub check_block-returns : goal.check_block-returns
check_block-returns t c = (block_done _ _ _ _ _ _ _ _ _ _ _ _ _ _ c.loop.invariant.3 c.loop-test.false, c.loop.invariant.1)

pub check_for-check_operand-from-requires : goal.check_for-check_operand-from-requires
check_for-check_operand-from-requires t c = (read_bounds _ _ _ _ _ c.requires.0.read _ refl c.requires.1).first

pub check_for-check_operand-to-requires : goal.check_for-check_operand-to-requires
check_for-check_operand-to-requires t c = second_fine _ _ _ _ _ _ _ _ _ c.check_operand-from.ensures (read_bounds _ _ _ _ _ c.requires.0.read _ refl c.requires.1)

pub check_for-check_block-b-requires : goal.check_for-check_block-b-requires
check_for-check_block-b-requires t c = (omega arith, (body_fine _ _ _ _ _ _ _ _ c.requires.0.read c.requires.1 _ _ _ c.check_operand-from.ensures c.check_operand-to.ensures))

pub check_for-returns : goal.check_for-returns
check_for-returns t c = (
  for_returns _ _ _ _ _ _ _ _ c.requires.0.read c.requires.1 _ _ _ c.check_operand-from.ensures c.check_operand-to.ensures _ _ _ _ _ _ _ c.target-x.ensures.0 refl c.note_loop-noted.ensures c.put.ensures c.check_block-b.ensures.0,
  put_back _ _ _ _ _ _ _ _ c.get-before.ensures c.put.ensures c.check_block-b.ensures.1 c.put-2.ensures,
)

pub check_if-check_operand-c-requires : goal.check_if-check_operand-c-requires
check_if-check_operand-c-requires t c = read_if _ _ _ _ _ c.requires.0.read _ refl c.requires.1

pub check_if-check_block-a-requires : goal.check_if-check_block-a-requires
check_if-check_block-a-requires t c = (omega arith, (then_fine _ _ _ _ _ _ _ _ c.requires.0.read c.requires.1 _ _ c.check_operand-c.ensures))

pub check_if-check_block-requires : goal.check_if-check_block-requires
check_if-check_block-requires t c = (omega arith, (else_fine _ _ _ _ _ _ _ _ c.requires.0.read c.requires.1 _ _ c.check_operand-c.ensures _ _ _ c.check_block-a.ensures.0))

pub check_if-returns : goal.check_if-returns
check_if-returns t c = (
  if_returns _ _ _ _ _ _ _ _ c.requires.0.read c.requires.1 _ _ c.check_operand-c.ensures _ _ _ c.check_block-a.ensures.0 _ _ c.check_block-a.ensures.1 c.check_block.ensures.0,
  c.check_block.ensures.1 ∙ c.check_block-a.ensures.1,
)
