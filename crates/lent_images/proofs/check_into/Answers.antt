-- The words that were read tell what the lent bytes tell.
use Rattle.lent_images.proofs.Rules.{checked_bytes}
use Rattle.lent_images.proofs.check_into.Goals as goal

pub returns : goal.returns
returns c = checked_bytes _ _ _ _ c.read_image-n.ensures.2 c.admissible-whole.ensures c.check_words.ensures
