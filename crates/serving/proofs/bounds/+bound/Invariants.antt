-- A longer image is cut to a shorter one.
use Rattle.std.proofs.Common.{length}
use Rattle.serving.proofs.bounds.+bound.Given as goal

abbrev pub decreases-bound : goal.decreases-bound
decreases-bound l = length l.image.now
