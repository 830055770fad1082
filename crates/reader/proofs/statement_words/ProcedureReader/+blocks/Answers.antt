-- The table of ends stays sound, since the entry of a block that was read is its end.
use Rattle.std.proofs.Common.{arith}
use Rattle.reader.proofs.StatementRules.{block_rules, block_marked}
use Rattle.reader.proofs.statement_words.ProcedureReader.+blocks.Goals as goal

pub read_block-returns-clause-sound : goal.read_block-returns-clause-sound
read_block-returns-clause-sound t c = block_marked _ _ _ c.args.level c.args.at _ _ _ (grind (arith, block_rules)) c.loop.invariant.0 c.mark.ensures
