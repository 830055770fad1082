-- The cell of an index, by the table. Assumes nothing.
use Rattle.std.specs.Prelude.{ℕ, ◌+◌, ◌≤◌, ◌<◌, List, ltb, get_or}
use Rattle.definitions.specs.Choice.{pick}
use Rattle.definitions.specs.Image.{array_length}
use Rattle.definitions.specs.Running.{Evaluated, value, stop, bind, emit}
use Rattle.tables.specs.Table.{array_count_in, arrays_in, base_in}
use Rattle.tracing.specs.Log.{Log, byte_trace}

-- the cells of each array begin within the most cells that an image has
unfoldable pub Bases : List ℕ → Type 0
Bases table = (a : ℕ) → a < array_count_in table → base_in table a ≤ 1024

-- its entry in the trace, "23 index beyond the array", else the cell's number among all cells
unfoldable pub numbered : List ℕ → ℕ → ℕ → ℕ → Log → Evaluated Log ℕ
numbered table a l v t =
    bind (emit byte_trace 4 l v t)
    (λ i u. pick (ltb i (array_length (get_or (arrays_in table) a 0))) (value (base_in table a + i) u) (stop 23 l u))

-- what stands in that cell
unfoldable pub cell_read : List ℕ → List ℕ → ℕ → ℕ → ℕ → Log → Evaluated Log ℕ
cell_read table cells a l v t = bind (numbered table a l v t) (λ n u. value (get_or cells n 0) u)
