-- A place in the image fits an entry.
use Rattle.std.proofs.Common.{arith}
use Rattle.simple_statements.proofs.PartRules.{place_near}
use Rattle.simple_statements.proofs.statement_words.run_return.Goals as goal

pub overflow_add-at : goal.overflow_add-at
overflow_add-at c = omega (arith, place_near _ _ _ c.args.scope.now.program.known c.requires.0.within)

pub record-requires : goal.record-requires
record-requires c = place_near _ _ _ c.args.scope.now.program.known c.requires.0.within
