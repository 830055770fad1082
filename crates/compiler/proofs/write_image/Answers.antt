-- The lent words are those of the output, which kept its buffer.
use Rattle.compiler.proofs.Image.{lent_back}
use Rattle.compiler.proofs.write_image.Goals as goal

pub returns : goal.returns
returns c = lent_back _ _ _ _ c.emit_image.ensures.0 c.emit_image.ensures.1 c.words-1.given
