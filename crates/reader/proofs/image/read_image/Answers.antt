-- What `read_image` asks of `read_whole`.
use Rattle.reader.proofs.ImageRules.{whole_asked}
use Rattle.reader.proofs.image.read_image.Goals as goal

pub read_whole-read-requires : goal.read_whole-read-requires
read_whole-read-requires c = whole_asked _ _ _ c.requires.0 c.requires.1
