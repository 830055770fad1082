-- The body is read where the table says, and what is found there is so.
use Rattle.procedures.proofs.Whole.{body_read, described}
use Rattle.procedures.proofs.describe.Goals as goal

pub find_block-d-requires : goal.find_block-d-requires
find_block-d-requires c = body_read _ _ _ c.args.procedure.listed c.requires.form _ c.largest_level.ensures _ c.body.ensures

pub returns : goal.returns
returns c =
    described _ _ _ c.args.procedure.listed c.requires.form _ c.largest_level.ensures _ c.body.ensures _ _ _ _ _ c.requires.typed
    c.is_guarded-guarded.ensures c.parameters.ensures c.result_type.ensures c.find_block-d.ensures
