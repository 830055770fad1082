-- What the loop of `skip` keeps: how many expressions of the row are left, and from where on. Assumes nothing.
use Rattle.std.proofs.Common.{◌-◌, length}
use Rattle.image_words.proofs.SkipRules.{Passing}
use Rattle.image_words.proofs.skipping.skip.Given as goal

abbrev pub invariant-loop-left : goal.invariant-loop-left
invariant-loop-left l = Passing l.image l.count l.at l.left l.a

abbrev pub decreases-loop-left : goal.decreases-loop-left
decreases-loop-left l = length l.image - l.a
