use Rattle.tables.proofs.Bodies.{counted}
use Rattle.tables.proofs.programs.Program.procedures.Goals as goal

pub returns : goal.returns
returns c = counted _ _ c.args.self.known _ c.element.ensures _ c.procedures.ensures
