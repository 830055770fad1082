-- What the checker accepts was read and has no fault; what it refuses is refused with the same number and place.
use Rattle.checker.specs.Left.{passes}
use Rattle.compiler.proofs.CheckedRules.{refused_too, written_whole}
use Rattle.compiler.proofs.images.compile.Goals as goal

pub invariant_of-program : goal.invariant_of-program
invariant_of-program c = record { known = (passes _ _ _ _ _ c.check_with.ensures.0 c.in-Accepted.is c.check_with.ensures.1).known }

pub compile_checked-requires : goal.compile_checked-requires
compile_checked-requires c = (passes _ _ _ _ _ c.check_with.ensures.0 c.in-Accepted.is c.check_with.ensures.1).clean

pub returns-in-Refused : goal.returns-in-Refused
returns-in-Refused c = refused_too _ _ _ c.check_with.ensures.0 _ _ c.in-Refused.is _

pub returns-in-Accepted : goal.returns-in-Accepted
returns-in-Accepted c =
    written_whole _ _ _ _ _ (passes _ _ _ _ _ c.check_with.ensures.0 c.in-Accepted.is c.check_with.ensures.1).is_whole c.compile_checked.ensures
