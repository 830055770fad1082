-- A place in the image fits an entry.
use Rattle.std.proofs.Common.{arith}
use Rattle.simple_statements.proofs.PartRules.{place_near}
use Rattle.simple_statements.proofs.parts.branch.Goals as goal

pub overflow_add-place : goal.overflow_add-place
overflow_add-place c = omega (arith, place_near _ _ _ c.args.memory.now.program.known c.requires.within)

pub record-requires : goal.record-requires
record-requires c = omega (arith, place_near _ _ _ c.args.memory.now.program.known c.requires.within)
