-- A longer image is cut.
use Rattle.std.proofs.Common.{length}
use Rattle.lent_images.proofs.+check_bytes.Given as goal

abbrev pub decreases-check_bytes : goal.decreases-check_bytes
decreases-check_bytes l = length l.image.now
