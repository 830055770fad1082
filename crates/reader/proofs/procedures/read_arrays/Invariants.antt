-- What the loop of `read_arrays` keeps: the arrays read so far stand in the table.
use Rattle.std.proofs.Common.{◌-◌, ◌≤◌, ◌≡◌}
use Rattle.definitions.specs.Reading.{read_arrays}
use Rattle.reader.specs.Answers.{answer}
use Rattle.reader.proofs.ArrayRules.{Arrays}
use Rattle.reader.proofs.procedures.read_arrays.Given as goal

abbrev pub invariant-loop-k : goal.invariant-loop-k
invariant-loop-k l =
    (l.cells ≤ 1024) × Arrays l.count l.image l.fn.at l.table l.k l.cells l.at
    × (answer (read_arrays (l.count - l.k) l.cells l.image l.at) ≡ answer (read_arrays l.count 0 l.image l.fn.at))
