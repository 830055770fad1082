-- A place in the image fits an entry.
use Rattle.std.proofs.Common.{arith}
use Rattle.evaluator.specs.CellLaws.{known_bases}
use Rattle.simple_statements.proofs.PartRules.{place_near}
use Rattle.simple_statements.proofs.parts.slot.Goals as goal

pub overflow_add-place : goal.overflow_add-place
overflow_add-place c = omega (arith, place_near _ _ _ c.args.memory.now.program.known c.requires.within)

pub index_at-requires : goal.index_at-requires
index_at-requires c =
    (known_bases _ _ c.args.memory.now.program.known, omega (arith, place_near _ _ _ c.args.memory.now.program.known c.requires.within))
