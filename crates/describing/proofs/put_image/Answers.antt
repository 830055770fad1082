-- The counts, the arrays and the procedures.
use Rattle.describing.proofs.Rules.{image_on}
use Rattle.describing.proofs.put_image.Goals as goal

pub returns : goal.returns
returns c = (
  image_on _ _ c.args.program.known _ _ _ _ c.put_counts.ensures.0 _ _ c.put_arrays.ensures.0 _ _ c.put_procedures.ensures.0,
  (cc),
)
