-- What each call asks: fewer levels, and a part that was read; and one statement more.
use Rattle.std.proofs.Common.{rules}
use Rattle.contexts.proofs.Passing.{fine, block_again, block_more}
use Rattle.contexts.proofs.+blocks.Goals as goal

pub rc_block-loop-preserved : goal.rc_block-loop-preserved
rc_block-loop-preserved t c = record { read = search block_again; same = search block_more }

pub rc_if-rc_block-a-requires : goal.rc_if-rc_block-a-requires
rc_if-rc_block-a-requires t c = search (fine, rules)

pub rc_if-rc_block-b-requires : goal.rc_if-rc_block-b-requires
rc_if-rc_block-b-requires t c = search (fine, rules)

pub rc_statement-rc_block-requires : goal.rc_statement-rc_block-requires
rc_statement-rc_block-requires t c = search (fine, c.in-For.ensures, rules)
