-- What the loop of `read_procedures` keeps of the tables.
use Rattle.std.proofs.Common.{arith}
use Rattle.reader.proofs.Steps.{none_passed}
use Rattle.reader.proofs.ImageRules.{procedures_rules, progress_begin, progress_more, procedures_kept}
use Rattle.reader.proofs.image.read_procedures.Goals as goal

pub loop-me-init : goal.loop-me-init
loop-me-init c = (progress_begin _ _ _ _ _ _ c.requires.2 c.requires.3, rw none_passed)

pub loop-me-preserved : goal.loop-me-preserved
loop-me-preserved c =
    progress_more _ _ _ _ _ _ _ _ _ c.loop-me.invariant.0 c.loop-me-test.true (grind (arith, procedures_rules)) _ c.in_ok-next.ensures.read _ _
    c.variables.ensures.0 c.parameters.ensures.0 _ c.add_procedure.ensures _ c.read_procedure.ensures.sound _ c.loop-me.invariant.1

pub returns-clause-left : goal.returns-clause-left
returns-clause-left c =
    rw (← c.form-form.ensures, ← c.procedures-count.ensures) (procedures_kept _ _ _ _ _ _ _ _ _ c.loop-me.invariant.0 (omega arith))
