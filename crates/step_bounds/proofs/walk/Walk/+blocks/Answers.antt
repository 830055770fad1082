-- What the walk over statements and blocks finds is what the lemmas of Rules and Blocks say of each kind.
use Rattle.std.proofs.Common.{false, rules, ◌∙◌, refl, sym}
use Rattle.image_words.specs.StatementParts.{read_store, read_if, read_bounds}
use Rattle.image_words.specs.Skipping.{skip_expression, skip_pair}
use Rattle.image_words.specs.Rest.{block_ready, next_statement}
use Rattle.step_bounds.proofs.Rules.{counted_capped, single_skips, count_single, count_store, then_fine, else_fine, count_if}
use Rattle.step_bounds.proofs.Rules.{to_fine, body_fine, count_for, entered_fine, entered_counted}
use Rattle.step_bounds.proofs.Rules.{next_fine, next_counted}
use Rattle.step_bounds.proofs.Blocks.{block_begin, block_done, block_again, block_more, place_apart}
use Rattle.step_bounds.proofs.walk.Walk.+blocks.Goals as goal

pub count_block-loop-init : goal.count_block-loop-init
count_block-loop-init t c = record {
  within = search rules;
  read = block_ready _ _ _ _ _ c.requires.0.read _ c.payload-count.ensures.0;
  is_capped = c.requires.2;
  same = block_begin _ _ _ _ _ _ _ _ c.requires.0.read c.payload-count.ensures.0;
}

pub count_block-count_statement-c-requires : goal.count_block-count_statement-c-requires
count_block-count_statement-c-requires t c = (
  search rules,
  (
    next_statement _ _ _ _ _ _ _ c.loop.invariant.read c.loop-test.true,
    c.requires.1,
    c.loop.invariant.is_capped,
  ),
)

pub count_block-loop-preserved : goal.count_block-loop-preserved
count_block-loop-preserved t c = record {
  within = search rules;
  read = block_again _ _ _ _ _ _ _ c.loop.c _ c.loop.invariant.read c.loop-test.true c.count_statement-c.ensures;
  is_capped = counted_capped _ c.loop.c c.loop.invariant.is_capped _ _ c.count_statement-c.ensures;
  same =
      block_more _ _ _ _ _ _ _ c.loop.c _ c.loop.invariant.same _ c.loop.invariant.read c.loop-test.true
      c.count_statement-c.ensures;
}

pub count_block-returns : goal.count_block-returns
count_block-returns t c =
    block_done _ _ _ _ _ _ _ _ _ c.loop.invariant.same c.loop.invariant.is_capped c.loop-test.false
    ∙ place_apart _ c.args.before _ _

pub count_for-skip-to-requires : goal.count_for-skip-to-requires
count_for-skip-to-requires t c =
    skip_expression _ _ _ (read_bounds _ _ _ _ _ c.requires.0.read 3 (sym c.requires.3) refl).first.read

pub count_for-skip-block-requires : goal.count_for-skip-block-requires
count_for-skip-block-requires t c =
    skip_expression _ _ _ (to_fine c.args.self.callees.now c.args.before _ _ _ _ c.requires.0.read c.requires.3 _ c.skip-to.ensures).read

pub count_for-count_block-x-requires : goal.count_for-count_block-x-requires
count_for-count_block-x-requires t c =
    let fine =
    entered_fine c.args.before _ _ _ c.enter.ensures _ _ _ _
    (body_fine c.args.self.callees.now c.args.before _ _ _ _ c.requires.0.read c.requires.3 _ c.skip-to.ensures _ c.skip-block.ensures) in
    (search rules, (fine.0, c.requires.1, fine.1))

pub count_for-returns : goal.count_for-returns
count_for-returns t c =
    count_for _ c.args.before _ _ _ _ c.requires.0.read c.requires.3 _ c.skip-to.ensures _ c.skip-block.ensures _ _ _ _ _
    (c.is_some.ensures ∙ c.constant_at-low.ensures.constant) (c.is_some-2.ensures ∙ c.constant_at-high.ensures.constant)
    (c.unwrap_or-2.ensures ∙ c.constant_at-low.ensures.value) (c.unwrap_or.ensures ∙ c.constant_at-high.ensures.value) c.saturating_sub-count.ensures _
    (entered_counted c.args.before _ _ _ c.enter.ensures _ _ _ _ _ _ c.count_block-x.ensures) _ _ _
    c.repeated.ensures.0 c.sum.ensures.0 c.sum-2.ensures.0

pub count_if-skip-first-requires : goal.count_if-skip-first-requires
count_if-skip-first-requires t c = skip_expression _ _ _ (read_if _ _ _ _ _ c.requires.0.read 2 (sym c.requires.3) refl).read

pub count_if-count_block-x-requires : goal.count_if-count_block-x-requires
count_if-count_block-x-requires t c =
    let fine =
    entered_fine c.args.before _ false _ c.enter.ensures _ _ _ _
    (then_fine c.args.self.callees.now c.args.before _ _ _ _ c.requires.0.read c.requires.3 _ c.skip-first.ensures) in
    (search rules, (fine.0, c.requires.1, fine.1))

pub count_if-count_block-y-requires : goal.count_if-count_block-y-requires
count_if-count_block-y-requires t c =
    let fine =
    next_fine c.args.self.callees.now _ _ _ _ c.count_block-x.result _ c.enter-2.ensures
    (else_fine _ c.args.before _ _ _ _ c.requires.0.read c.requires.3 _ c.skip-first.ensures _
    (entered_counted c.args.before _ false _ c.enter.ensures _ _ _ _ _ _ c.count_block-x.ensures)) in
    (search rules, (fine.0, c.requires.1, fine.1))

pub count_if-returns : goal.count_if-returns
count_if-returns t c =
    count_if _ c.args.before _ _ _ _ c.requires.0.read c.requires.3 _ c.skip-first.ensures _
    (entered_counted c.args.before _ false _ c.enter.ensures _ _ _ _ _ _ c.count_block-x.ensures) _
    (next_counted _ _ _ _ _ c.count_block-x.result _ c.enter-2.ensures _ c.count_block-y.ensures) _ _ _
    c.max.ensures c.sum.ensures.0 c.sum-2.ensures.0

pub count_statement-skip-requires : goal.count_statement-skip-requires
count_statement-skip-requires t c = single_skips c.args.self.callees.now c.args.before _ _ _ _ c.requires.0.read _ c.of.ensures c.in-Assign.is

pub count_statement-returns-in-Assign : goal.count_statement-returns-in-Assign
count_statement-returns-in-Assign t c =
    c.step.ensures ∙ count_single _ c.args.before _ _ _ _ c.requires.0.read _ c.of.ensures c.in-Assign.is _ c.skip.ensures

pub count_statement-skip-requires-in-Store : goal.count_statement-skip-requires-in-Store
count_statement-skip-requires-in-Store t c = skip_pair _ _ _ (read_store _ _ _ _ _ c.requires.0.read _ refl c.in-Store.ensures)

pub count_statement-returns-in-Store : goal.count_statement-returns-in-Store
count_statement-returns-in-Store t c =
    c.step-in-Store.ensures ∙ count_store _ c.args.before _ _ _ _ c.requires.0.read _ c.in-Store.ensures c.skip-in-Store.ensures
