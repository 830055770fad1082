-- The description tells what the parts ask, and the parts join to the procedure.
use Rattle.procedures.proofs.Whole.{types_few, parameters_within, few_parameters, few_levels, procedure_on}
use Rattle.procedures.proofs.emit_procedure.Goals as goal

pub head_of-requires : goal.head_of-requires
head_of-requires c = (
  types_few _ _ _ _ c.args.procedure.listed c.requires.typed c.describe-source.result c.describe-source.ensures,
  parameters_within _ _ _ _ c.args.procedure.listed c.requires.typed c.describe-source.result c.describe-source.ensures,
  few_parameters _ _ _ _ c.args.procedure.listed c.requires.typed c.describe-source.result c.describe-source.ensures,
  few_levels _ _ _ _ c.args.procedure.listed c.requires.typed c.describe-source.result c.describe-source.ensures,
)

pub emit_types-requires : goal.emit_types-requires
emit_types-requires c =
    parameters_within _ _ _ _ c.args.procedure.listed c.requires.typed c.describe-source.result c.describe-source.ensures

pub returns : goal.returns
returns c = (
  procedure_on _ _ _ _ c.args.procedure.listed c.requires.typed c.describe-source.result c.describe-source.ensures _ _ _ _ _ _ _ _ _
      c.head_of.ensures c.put_all.ensures.0 c.emit_types.ensures.0 c.emit_body.ensures.0,
  (cc),
)
