-- A longer image is cut to a shorter one.
use Rattle.std.proofs.Common.{length}
use Rattle.serving.proofs.previews.+preview.Given as goal

abbrev pub decreases-preview : goal.decreases-preview
decreases-preview l = length l.image.now
