-- Of what was prepared, the answer and the table.
use Rattle.ready.proofs.Rules.{left_table}
use Rattle.ready.proofs.load_sized.Goals as goal

pub returns : goal.returns
returns g c = left_table _ _ _ _ _ _ _ c.prepare.ensures
