-- No for stands around any variable.
use Rattle.labels.specs.Enclosing.{bounds_none}
use Rattle.labels.proofs.enclosing.Enclosing.none.Goals as goal

pub returns : goal.returns
returns c = bounds_none 256
