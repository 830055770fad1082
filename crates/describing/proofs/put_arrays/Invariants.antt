-- What is left to write after some arrays, from where they end, is what was to be written.
use Rattle.std.proofs.Common.{◌≡◌, drop}
use mathlib.Core.List.{flat_map}
use Rattle.definitions.specs.Describing.{array_fields}
use Rattle.tables.specs.Table.{arrays_in}
use Rattle.writer.specs.Writing.{writes}
use Rattle.describing.proofs.put_arrays.Given as goal

abbrev pub invariant-loop-a : goal.invariant-loop-a
invariant-loop-a l =
    (writes l.out.place l.out.words.now (flat_map array_fields (drop l.a (arrays_in l.program.table.now)))
    ≡ writes l.fn.out.place l.fn.out.words.now (flat_map array_fields (arrays_in l.program.table.now)))
    × (l.out.words.ghost_name ≡ l.fn.out.words.ghost_name)
