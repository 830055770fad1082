-- One procedure more is written; at the end none is left.
use Rattle.std.proofs.Common.{arith}
use Rattle.describing.proofs.Rules.{procedures_done, procedures_more}
use Rattle.describing.proofs.put_procedures.Goals as goal

pub loop-f-preserved : goal.loop-f-preserved
loop-f-preserved c = (
  procedures_more _ c.loop-f.f _ _ _ c.loop-f.invariant.0 (omega arith) _ _ c.put_procedure.ensures.0,
  (cc),
)

pub returns : goal.returns
returns c = (procedures_done _ c.loop-f.f _ _ _ c.loop-f.invariant.0 (omega arith), c.loop-f.invariant.1)
