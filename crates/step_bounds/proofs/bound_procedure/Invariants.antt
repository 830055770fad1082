-- The procedures below g are known.
use Rattle.laws.specs.ImageIn.{procedures_in}
use Rattle.step_bounds.specs.Summaries.{Summaries}
use Rattle.step_bounds.proofs.bound_procedure.Given as goal

abbrev pub invariant-loop-g : goal.invariant-loop-g
invariant-loop-g l = Summaries (procedures_in l.program.image.now) l.g l.callees
