-- The word and the condition join.
use Rattle.std.proofs.Common.{rules}
use Rattle.emission.proofs.Simple.{if_head_on}
use Rattle.emission.proofs.Walk.emit_if_head.Goals as goal

pub copy_expression-requires : goal.copy_expression-requires
copy_expression-requires c = rw c.source.ensures.image c.requires

pub returns : goal.returns
returns c =
    let e = rw (c.source.ensures.image, c.source.ensures.first) at c.copy_expression.ensures in
    (if_head_on _ _ _ _ c.requires.read _ _ _ _ _ c.put.ensures.0 e.0, search rules, search rules, search rules)
