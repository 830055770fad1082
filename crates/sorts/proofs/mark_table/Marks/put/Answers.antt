-- Past its end the table stays as it is.
use Rattle.sorts.proofs.MarkTable.{put_past}
use Rattle.sorts.proofs.mark_table.Marks.put.Goals as goal

pub returns-else-i-lt-VARIABLES : goal.returns-else-i-lt-VARIABLES
returns-else-i-lt-VARIABLES c = put_past c.self.inside.of c.args.x c.args.mark _ _ c.self.view_is c.self.invariant c.if-i-lt-VARIABLES.false
