-- The words that were read tell what the lent bytes tell.
use Rattle.ready.proofs.Rules.{load_prepared}
use Rattle.ready.proofs.prepare.Goals as goal

pub returns : goal.returns
returns c =
    load_prepared _ _ _ _ c.read_image-n.ensures.2 _ c.admissible-whole.ensures c.read_image-n.ensures.0 c.read_image-n.ensures.3 _ _ _ _
    c.judge.ensures.0 c.judge.ensures.1
