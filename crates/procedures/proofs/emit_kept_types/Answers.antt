-- The three parts join.
use Rattle.procedures.proofs.Words.{kept_on}
use Rattle.procedures.proofs.emit_kept_types.Goals as goal

pub returns : goal.returns
returns c = (
  kept_on c.args.types.now _ _ c.args.n c.args.guarded _ _ _ _ _ _ c.put_all.ensures.0 c.emit_guard_type.ensures.0 c.put_all-2.ensures.0,
  (cc),
)
