-- The cells counted and those of the arrays that are left make up all cells.
use Rattle.std.proofs.Common.{◌≡◌, ◌+◌, ◌*◌, ◌≤◌, drop}
use Rattle.definitions.specs.Image.{cell_count}
use Rattle.tables.specs.Table.{arrays_in}
use Rattle.requests.proofs.cells.cell_count.Given as goal

abbrev pub invariant-loop-k : goal.invariant-loop-k
invariant-loop-k l = (l.total ≤ 65535 * l.k) × (l.total + cell_count (drop l.k (arrays_in l.table)) ≡ cell_count (arrays_in l.table))
