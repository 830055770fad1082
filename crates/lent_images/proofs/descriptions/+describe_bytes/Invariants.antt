-- A longer image is cut.
use Rattle.std.proofs.Common.{length}
use Rattle.lent_images.proofs.descriptions.+describe_bytes.Given as goal

abbrev pub decreases-describe_bytes : goal.decreases-describe_bytes
decreases-describe_bytes l = length l.image.now
