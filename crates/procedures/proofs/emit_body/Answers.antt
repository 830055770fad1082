-- The count is written where a word was kept for it.
use Rattle.procedures.proofs.Whole.{body_on}
use Rattle.procedures.proofs.emit_body.Goals as goal

pub returns : goal.returns
returns c = (
  body_on _ _ _ _ _ _ _ _ _ _ _ c.put.ensures.0 c.emit_inner-count.ensures.words.0 c.emit_inner-count.ensures.count.0 c.block_with.ensures
      c.patch.ensures.words _ c.patch.ensures.place,
  (cc),
)
