-- A procedure's body begins where the table says.
use Rattle.std.proofs.Common.{rules, arith}
use Rattle.step_bounds.proofs.ProcedureRules.{listed_few, body_fine, procedure_counted}
use Rattle.step_bounds.proofs.count_procedure.Goals as goal

pub count_block-found-requires : goal.count_block-found-requires
count_block-found-requires c = (
  body_fine c.procedure-procedure.result.listed c.procedure-procedure.ensures.of _ _ _ c.body.ensures c.form.ensures c.largest_level.ensures,
  (let few = listed_few c.procedure-procedure.result.listed in omega arith),
  search rules,
)

pub returns : goal.returns
returns c =
    procedure_counted c.procedure-procedure.result.listed c.procedure-procedure.ensures.of _ _ _ c.body.ensures c.form.ensures c.largest_level.ensures
    _ _ c.count_block-found.ensures
