-- The word and the bounds join.
use Rattle.std.proofs.Common.{rules}
use Rattle.emission.proofs.Simple.{for_head_on}
use Rattle.emission.proofs.Walk.emit_for_head.Goals as goal

pub copy_two-requires : goal.copy_two-requires
copy_two-requires c = rw c.source.ensures.image c.requires.1

pub returns : goal.returns
returns c =
    let e = rw (c.source.ensures.image, c.source.ensures.first) at c.copy_two.ensures in (
      for_head_on _ _ _ _ _ _ c.requires.1.first.read c.requires.1.second.read _ _ _ _ _ _ c.statement_with.ensures c.put.ensures.0 e.0,
      search rules,
      search rules,
      search rules,
    )
