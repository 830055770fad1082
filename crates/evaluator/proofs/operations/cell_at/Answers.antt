-- The cell's number is the index of what stands there.
use Rattle.evaluator.proofs.Leaves.{cell_got}
use Rattle.evaluator.specs.CellLaws.{known_bases}
use Rattle.evaluator.proofs.operations.cell_at.Goals as goal

pub returns-clause-answer : goal.returns-clause-answer
returns-clause-answer c = cell_got _ _ _ _ _ _ _ _ _ _ c.in_ok-i.ensures.answer c.element.ensures c.wide.ensures.0

pub index_at-requires : goal.index_at-requires
index_at-requires c = (known_bases _ _ c.args.program.known, c.requires)
