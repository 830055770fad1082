-- What the loop over the procedures keeps: with those that are left it finds what all of them give.
use Rattle.std.proofs.Common.{◌≡◌, drop}
use mathlib.Core.List.{flat_map}
use Rattle.definitions.specs.Faults.{least, no_fault}
use Rattle.definitions.specs.Sorts.{procedure_sort_faults, image_sort_faults}
use Rattle.laws.specs.ImageIn.{image_in, procedures_in}
use Rattle.tables.specs.Table.{array_count_in}
use Rattle.sorts.proofs.procedures.check_image.Given as goal

abbrev pub invariant-loop-me : goal.invariant-loop-me
invariant-loop-me l =
    let image = l.program.image.now in
    let arrays = array_count_in l.program.table.now in
    least l.found (flat_map (λ p. procedure_sort_faults (procedures_in image) arrays p) (drop l.me (procedures_in image)))
    ≡ least no_fault (image_sort_faults (image_in image))
