-- What each call asks: fewer levels, and a part that was read; one statement more; what a for puts around its variable and takes away.
use Rattle.std.proofs.Common.{rules, ◌∙◌}
use Rattle.labels.proofs.StatementRules.{fine, walk_for, kept, block_more, block_again}
use Rattle.labels.proofs.statement_words.+blocks.Goals as goal

pub label_block-loop-preserved : goal.label_block-loop-preserved
label_block-loop-preserved t c = record {
  outside = c.label_statement-s.ensures.1 ∙ c.loop.invariant.outside;
  read = search (block_again, rules);
  same = search (block_more, rules);
}

pub label_if-label_block-a-requires : goal.label_if-label_block-a-requires
label_if-label_block-a-requires t c = search (fine, rules)

pub label_if-label_block-b-requires : goal.label_if-label_block-b-requires
label_if-label_block-b-requires t c = search (fine, rules)

pub label_for-rc_block-after-requires : goal.label_for-rc_block-after-requires
label_for-rc_block-after-requires t c = search (fine, rules)

pub label_for-label_block-b-requires : goal.label_for-label_block-b-requires
label_for-label_block-b-requires t c = search (fine, rules)

pub label_for-returns : goal.label_for-returns
label_for-returns t c = (search (walk_for, rules), search (kept, rules))
