-- The faults so far and those of the procedures that are left are those of the image.
use Rattle.std.proofs.Common.{◌≡◌, drop}
use mathlib.Core.List.{flat_map}
use Rattle.definitions.specs.Faults.{no_fault, least}
use Rattle.definitions.specs.Labels.{procedure_label_faults, image_label_faults}
use Rattle.laws.specs.ImageIn.{image_in, procedures_in}
use Rattle.labels.proofs.procedures.label_image.Given as goal

abbrev pub invariant-loop-me : goal.invariant-loop-me
invariant-loop-me l =
    least l.found (flat_map (λ p. procedure_label_faults (image_in l.program.image.now) p) (drop l.me (procedures_in l.program.image.now)))
    ≡ least no_fault (image_label_faults (image_in l.program.image.now))
