-- The table that `block_end` lends holds nothing.
use Rattle.reader.specs.Ends.{zeros_sound}
use Rattle.reader.proofs.statement_words.ProcedureReader.block_end.Goals as goal

pub read_block-requires : goal.read_block-requires
read_block-requires c = zeros_sound _ _ _ 0
