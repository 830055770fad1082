-- The three fields and the types of the parameters.
use Rattle.describing.proofs.Rules.{procedure_on}
use Rattle.describing.proofs.put_procedure.Goals as goal

pub returns : goal.returns
returns c = (
  procedure_on _ _ _ c.args.program.known c.requires _ _ _ _ _ c.procedure_word.ensures c.mode-mode.ensures c.parameters.ensures _ _
      c.result_type.ensures c.payload-res.ensures.0 _ _ c.put_all.ensures.0 _ _ c.put_types.ensures.0,
  (cc),
)
