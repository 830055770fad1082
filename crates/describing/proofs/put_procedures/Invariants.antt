-- What is left to write after some procedures, from where they end, is what was to be written.
use Rattle.std.proofs.Common.{◌≡◌, drop}
use mathlib.Core.List.{flat_map}
use Rattle.definitions.specs.Describing.{procedure_fields}
use Rattle.laws.specs.ImageIn.{procedures_in}
use Rattle.writer.specs.Writing.{writes}
use Rattle.describing.proofs.put_procedures.Given as goal

abbrev pub invariant-loop-f : goal.invariant-loop-f
invariant-loop-f l =
    (writes l.out.place l.out.words.now (flat_map procedure_fields (drop l.f (procedures_in l.program.image.now)))
    ≡ writes l.fn.out.place l.fn.out.words.now (flat_map procedure_fields (procedures_in l.program.image.now)))
    × (l.out.words.ghost_name ≡ l.fn.out.words.ghost_name)
