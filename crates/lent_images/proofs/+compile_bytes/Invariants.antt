-- A longer image is cut.
use Rattle.std.proofs.Common.{length}
use Rattle.lent_images.proofs.+compile_bytes.Given as goal

abbrev pub decreases-compile_bytes : goal.decreases-compile_bytes
decreases-compile_bytes l = length l.image.now
