-- Writing the pairs that are left writes, from where the walk has come to, what all of them write.
use Rattle.std.proofs.Common.{◌≡◌, ◌-◌}
use Rattle.definitions.specs.Compiling.{pair_types}
use Rattle.writer.specs.Writing.{writes}
use Rattle.procedures.proofs.emit_pair_types.Given as goal

abbrev pub invariant-loop : goal.invariant-loop
invariant-loop l =
    (writes l.out.place l.out.words.now (pair_types (l.levels - l.counter)) ≡ writes l.fn.out.place l.fn.out.words.now (pair_types l.levels))
    × (l.out.words.ghost_name ≡ l.fn.out.words.ghost_name)
