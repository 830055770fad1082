-- The header, the arrays and the procedures join to the image.
use Rattle.compiler.proofs.Image.{image_on}
use Rattle.compiler.proofs.emit_image.Goals as goal

pub returns : goal.returns
returns c = (
  image_on _ _ c.args.program.known _ c.array_count-arrays.ensures.0 _ _ _ _ _ _ _ _ _ _ _ c.narrow.ensures c.procedures.ensures c.header_with.ensures
      c.put.ensures.0 c.put_all.ensures.0 c.emit_each.ensures.0,
  (cc),
)
