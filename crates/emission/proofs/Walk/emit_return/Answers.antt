-- A return is what the statement becomes. Assumes nothing.
use Rattle.std.proofs.Common.{rules, refl}
use Rattle.image_words.specs.StatementParts.{read_return}
use Rattle.emission.proofs.Simple.{simple_return}
use Rattle.emission.proofs.Walk.emit_return.Goals as goal

pub emit_return-at-requires : goal.emit_return-at-requires
emit_return-at-requires c = (search rules, rw c.masking.ensures.image (read_return _ _ _ _ _ c.requires.0.0.read _ refl c.requires.1))

pub returns : goal.returns
returns c =
    let e = rw (c.masking.ensures.image, c.masking.ensures.first) at c.emit_return-at.ensures in (
      simple_return _ _ _ c.args.self.scope c.args.cursor _ _ _ _ _ _ c.requires.0.0.read _ c.masking.ensures.act _ _ _ _ c.requires.1 c.statements_of.ensures.0 e.0,
      search rules,
      search rules,
    )
