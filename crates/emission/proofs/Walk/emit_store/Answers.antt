-- A store is what the statement becomes. Assumes nothing.
use Rattle.std.proofs.Common.{rules, refl}
use Rattle.image_words.specs.StatementParts.{read_store}
use Rattle.emission.proofs.Simple.{simple_store}
use Rattle.emission.proofs.Walk.emit_store.Goals as goal

pub emit_store-at-requires : goal.emit_store-at-requires
emit_store-at-requires c = (search rules, rw c.masking.ensures.image (read_store _ _ _ _ _ c.requires.0.0.read _ refl c.requires.1))

pub returns : goal.returns
returns c =
    let e = rw (c.masking.ensures.image, c.masking.ensures.first) at c.emit_store-at.ensures in (
      simple_store _ _ _ c.args.self.scope c.args.cursor _ _ _ _ _ _ c.requires.0.0.read _ c.masking.ensures.act _ _ _ _ c.requires.1 c.target-a.ensures.0 e.0,
      search rules,
      search rules,
    )
