use Rattle.tables.proofs.Bodies.{formed}
use Rattle.tables.proofs.programs.Program.form.Goals as goal

pub returns : goal.returns
returns c = formed _ _ c.args.self.known _ c.element.ensures _ c.form.ensures
