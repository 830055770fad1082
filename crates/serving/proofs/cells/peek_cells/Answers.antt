-- `serving::cells::peek_cells`: the answer of the machine's peek.
use Rattle.std.proofs.Common.{rules}
use Rattle.serving.proofs.cells.peek_cells.Goals as goal

pub peek-requires : goal.peek-requires
peek-requires c = (search rules, (search rules, rw c.lent.ensures.1 c.requires.0))
