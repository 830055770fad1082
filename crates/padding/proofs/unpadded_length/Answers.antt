-- `padding::unpadded_length`: the preview of the routine is done, with the rule's number.
use Rattle.std.proofs.Common.{arith}
use Rattle.definitions.specs.Bytes.{bytes_of}
use Rattle.padding.proofs.Rules.{other_length, its_number, no_stop, no_refusal}
use Rattle.padding.proofs.unpadded_length.Goals as goal

pub returns-then-block-ne-BLOCK_CELLS : goal.returns-then-block-ne-BLOCK_CELLS
returns-then-block-ne-BLOCK_CELLS c = other_length _ c.if-block-ne-BLOCK_CELLS.true

pub returns-in-Done : goal.returns-in-Done
unfolding bytes_of
returns-in-Done c = its_number _ c.args.block.now _ _ _ c.write_words.ensures (omega arith) c.preview.ensures _ _ _ c.in-Done.is

pub returns-in-Stopped : goal.returns-in-Stopped
unfolding bytes_of
returns-in-Stopped c = no_stop _ c.args.block.now _ _ _ c.write_words.ensures (omega arith) c.preview.ensures _ _ _ _ c.in-Stopped.is

pub returns-in-Refused : goal.returns-in-Refused
unfolding bytes_of
returns-in-Refused c = no_refusal _ c.args.block.now _ _ _ c.write_words.ensures (omega arith) c.preview.ensures _ _ c.in-Refused.is
