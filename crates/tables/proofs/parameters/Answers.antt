-- The number of parameters stands behind the places of the bodies. Assumes nothing.
use Rattle.tables.proofs.Rules.{cast_drop}
use Rattle.tables.proofs.parameters.Goals as goal

pub returns : goal.returns
returns c = cast_drop c.args.table.now 97 c.args.f _ _ c.wide.ensures.0 c.element.ensures
