-- A refusal writes nothing.
use Rattle.std.proofs.Common.{refl}
use Rattle.lent_images.proofs.Rules.{refused_handed}
use Rattle.lent_images.proofs.hand_over.Goals as goal

pub returns-in-Refused : goal.returns-in-Refused
returns-in-Refused c = (refl, (refused_handed _ c.args.res.now c.args.out.now _ _ c.in-Refused.is).1)
