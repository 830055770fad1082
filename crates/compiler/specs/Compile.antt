-- What compiling leaves: the answer of `compiled`, and the words that were emitted before it was known. Assumes nothing.
use Rattle.std.specs.Prelude.{ℕ, Bool, List, eqb}
use Rattle.definitions.specs.Choice.{pick}
use Rattle.definitions.specs.declared.Compiled.{Compiled}
use Rattle.definitions.specs.declared.Compiled.TheVariants.{Refused}
use Rattle.definitions.specs.Image.{Image}
use Rattle.definitions.specs.Reading.{Parse, got, refused}
use Rattle.definitions.specs.Checking.{admitted}
use Rattle.definitions.specs.Encoding.{image_words}
use Rattle.definitions.specs.Compiling.{compiled_image, written}
use Rattle.writer.specs.Writing.{writes}

-- an image in source form: its words stand in the output as far as there is room, whatever the answer is
unfoldable pub answer_on : Image → List ℕ → Compiled × List ℕ
answer_on tree out = ((written (compiled_image tree) out).0, (writes 0 out (image_words (compiled_image tree))).1)

unfoldable pub tree_on : Parse Image → List ℕ → Compiled × List ℕ
tree_on (refused n p) out = (Refused n p, out)
tree_on (got image n) out = pick (eqb image.form 0) (answer_on image out) (Refused 14 0, out)

unfoldable pub compiled_on : Bool → List ℕ → List ℕ → Compiled × List ℕ
compiled_on whole image out = tree_on (admitted whole image) out
