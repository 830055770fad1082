-- The five parts join.
use Rattle.procedures.proofs.Whole.{types_on}
use Rattle.procedures.proofs.emit_types.Goals as goal

pub returns : goal.returns
returns c = (
  types_on c.args.source c.args.types.now _ _ _ _ _ _ _ _ _ _ _ _ _ c.wide.ensures.0 c.emit_kept_types.ensures.0 c.emit_return_types.ensures.0
      c.emit_pair_types.ensures.0 c.emit_temporary_type.ensures.0 c.emit_temporary_type-2.ensures.0,
  (cc),
)
