-- What has come is no more than the slice holds.
use Rattle.std.proofs.Common.{length, ◌≤◌}
use Rattle.print_image.proofs.fill.Given as goal

abbrev pub invariant-loop : goal.invariant-loop
invariant-loop g l = l.filled ≤ length l.bytes
