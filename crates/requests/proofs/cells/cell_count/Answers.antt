-- One array more is counted; at the end none is left.
use Rattle.std.proofs.Common.{arith}
use Rattle.requests.proofs.CellRules.{count_more, count_done}
use Rattle.requests.proofs.cells.cell_count.Goals as goal

pub loop-k-preserved : goal.loop-k-preserved
loop-k-preserved c = (
  omega (arith, c.array_length.ensures, c.wide-total.ensures),
  count_more c.args.table.now _ _ _ c.loop-k.invariant.1 _ _ _ c.array.ensures c.array_length.ensures.0 c.wide-total.ensures.0,
)

pub returns : goal.returns
returns c = count_done c.args.table.now _ _ _ c.loop-k.invariant.1 _ c.array_count-k-end.ensures.0 (omega (arith, c.array_count-k-end.ensures))
