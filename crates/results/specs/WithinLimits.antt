-- Document 02, wish 1: "Every image within the new limits keeps its answers." Assumes nothing.
use Rattle.std.specs.Prelude.{ℕ, Bool, true, List, ◌≡◌, length}
use Rattle.std.proofs.Common.{ap}
use Rattle.definitions.specs.Image.{Image}
use Rattle.definitions.specs.Encoding.{image_words}
use Rattle.definitions.specs.Reading.{Parse, read_image}
use Rattle.statements.specs.FormerLimits.{WithinLimits, SameAnswers}
use Rattle.laws.specs.FormerLevels.{read_keeps}
use Rattle.readback.specs.Like.{LikeImage}
use Rattle.readback.specs.Parses.{Reads, reads}
use Rattle.readback.specs.Back.{back_image}

-- words that spell a tree within the limits are read, so they have the answers that they had
pub within_limits : (whole : Bool) (words : List ℕ) (tree : Image) → WithinLimits whole words tree → SameAnswers whole words
within_limits whole words tree w =
    go (read_image true (image_words tree)) (ap (read_image true) w.spelled) (back_image tree w.limits (rw w.spelled at w.short))
  where
    go : (x : Parse Image) → read_image true words ≡ x → Reads (LikeImage tree) (length (image_words tree)) x → SameAnswers whole words
    go x e (reads {a = read} {n} q like) = read_keeps whole words read n (rw w.in_words e)
