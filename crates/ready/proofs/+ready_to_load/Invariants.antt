-- A longer image is cut.
use Rattle.std.proofs.Common.{length}
use Rattle.ready.proofs.+ready_to_load.Given as goal

abbrev pub decreases-ready_to_load : goal.decreases-ready_to_load
decreases-ready_to_load l = length l.image.now
