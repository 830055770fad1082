-- An assignment is what the statement becomes. Assumes nothing.
use Rattle.std.proofs.Common.{rules, refl}
use Rattle.image_words.specs.StatementParts.{read_assign}
use Rattle.emission.proofs.Simple.{simple_assign}
use Rattle.emission.proofs.Walk.emit_assign.Goals as goal

pub emit_assign-at-requires : goal.emit_assign-at-requires
emit_assign-at-requires c = (search rules, rw c.masking.ensures.image (read_assign _ _ _ _ _ c.requires.0.0.read _ refl c.requires.1))

pub returns : goal.returns
returns c =
    let e = rw (c.masking.ensures.image, c.masking.ensures.first) at c.emit_assign-at.ensures in (
      simple_assign _ _ _ c.args.self.scope c.args.cursor _ _ _ _ _ _ c.requires.0.0.read _ c.masking.ensures.act _ _ _ _ _ c.requires.1 c.target.ensures.0 c.renumber-y.ensures.0 e.0,
      search rules,
      search rules,
    )
