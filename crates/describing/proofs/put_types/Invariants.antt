-- What is left to write after some types, from where they end, is what was to be written.
use Rattle.std.proofs.Common.{◌≡◌, ◌-◌}
use Rattle.definitions.specs.Describing.{parameter_types}
use Rattle.tables.specs.Looking.{procedure_in}
use Rattle.writer.specs.Writing.{writes}
use Rattle.describing.proofs.put_types.Given as goal

abbrev pub invariant-loop-k : goal.invariant-loop-k
invariant-loop-k l =
    (writes l.out.place l.out.words.now (parameter_types (procedure_in l.program.image.now l.f) (9 - l.k) l.k)
    ≡ writes l.fn.out.place l.fn.out.words.now (parameter_types (procedure_in l.program.image.now l.f) 9 0))
    × (l.out.words.ghost_name ≡ l.fn.out.words.ghost_name)
