-- The answers to an image by a former rule of what is admitted, beside today's.
use Rattle.std.specs.Prelude.{ℕ, Bool, List, ◌≡◌}
use Rattle.definitions.specs.Image.{Image}
use Rattle.definitions.specs.Reading.{Parse}
use Rattle.definitions.specs.Checking.{verdict, checked}
use Rattle.definitions.specs.Compiling.{compiled_tree, compiled}
use Rattle.definitions.specs.Describing.{described_tree, described}
use Rattle.definitions.specs.Requests.{with_cells, ready_to_load}

-- The answers that an image has are those where the given tree was admitted, or the given refusal was given. A request on cells (load, clear, poke,
-- peek, call, preview) looks at an image in `ready_to_load` alone.
pub record AnswersAs (former : Parse Image) (whole : Bool) (image : List ℕ) : Type 0 where
  pub checks : checked whole image ≡ verdict former
  pub compiles : (out : List ℕ) → compiled whole image out ≡ compiled_tree former out
  pub describes : (out : List ℕ) → described whole image out ≡ described_tree former out
  pub readies : (count : ℕ) → ready_to_load whole image count ≡ with_cells former count
