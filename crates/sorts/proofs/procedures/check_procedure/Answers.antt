-- What `check_procedure` asks of the walks of a body, and what it returns.
use Rattle.std.proofs.Common.{rules}
use Rattle.sorts.proofs.ProcedureRules.{body_fine, procedure_checked}
use Rattle.sorts.proofs.procedures.check_procedure.Goals as goal

pub mark_block-requires : goal.mark_block-requires
mark_block-requires c = body_fine c.procedure-procedure.result.listed c.procedure-procedure.ensures.typed c.procedure-procedure.ensures.of _ _ _ c.body-body.ensures c.form.ensures c.largest_level-level.ensures

pub check_block-walked-requires : goal.check_block-walked-requires
check_block-walked-requires c = body_fine c.procedure-procedure.result.listed c.procedure-procedure.ensures.typed c.procedure-procedure.ensures.of _ _ _ c.body-body.ensures c.form.ensures c.largest_level-level.ensures

pub returns : goal.returns
returns c =
    procedure_checked c.procedure-procedure.result.listed c.procedure-procedure.ensures.typed c.procedure-procedure.ensures.of _ _ _ c.body-body.ensures
    c.form.ensures c.largest_level-level.ensures _ _ _ _ _ _ _ c.parameters.ensures c.result_type.ensures (search rules) c.mark_block.ensures c.check_block-walked.ensures.0
