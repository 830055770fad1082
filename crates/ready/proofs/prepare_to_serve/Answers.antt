-- An empty image, or one that is prepared as for a load.
use Rattle.ready.proofs.Rules.{serve_empty, some_prepared}
use Rattle.ready.proofs.prepare_to_serve.Goals as goal

pub returns-then-image-eq0 : goal.returns-then-image-eq0
returns-then-image-eq0 c = rw c.at.ensures (serve_empty _ c.if-image-eq0.true _ _ _ _ c.requires.1 c.requires.2)

pub returns : goal.returns
returns c = some_prepared _ c.if-image-eq0.false _ _ _ _ _ _ c.prepare.ensures
