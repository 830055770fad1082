-- A longer image is cut to a shorter one.
use Rattle.std.proofs.Common.{length}
use Rattle.serving.proofs.calls.+call.Given as goal

abbrev pub decreases-call : goal.decreases-call
decreases-call l = length l.image.now
