-- The checker refuses the image, or accepts it.
use Rattle.checker.specs.Left.{passes}
use Rattle.describing.proofs.Rules.{refused_too, written_whole}
use Rattle.describing.proofs.describe.Goals as goal

pub invariant_of-program : goal.invariant_of-program
invariant_of-program c = record { known = (passes _ _ _ _ _ c.check_with.ensures.0 c.in-Accepted.is c.check_with.ensures.1).known }

pub describe_accepted-requires : goal.describe_accepted-requires
describe_accepted-requires c = (passes _ _ _ _ _ c.check_with.ensures.0 c.in-Accepted.is c.check_with.ensures.1).clean

pub returns-in-Refused : goal.returns-in-Refused
returns-in-Refused c = refused_too _ _ _ c.check_with.ensures.0 _ _ c.in-Refused.is _

pub returns-in-Accepted : goal.returns-in-Accepted
returns-in-Accepted c =
    written_whole _ _ _ _ _ (passes _ _ _ _ _ c.check_with.ensures.0 c.in-Accepted.is c.check_with.ensures.1).is_whole c.describe_accepted.ensures
