-- What the loop over the procedures keeps, and what it leaves.
use Rattle.faults.specs.Rest.{procedures_done, procedures_more}
use Rattle.sorts.proofs.procedures.check_image.Goals as goal

pub loop-me-preserved : goal.loop-me-preserved
loop-me-preserved c = procedures_more _ _ _ _ c.procedures-me-end.ensures _ _ c.loop-me.invariant c.loop-me-test.true _ c.check_procedure-found.ensures

pub returns : goal.returns
returns c = procedures_done _ _ _ _ c.procedures-me-end.ensures _ _ c.loop-me.invariant c.loop-me-test.false
