-- The index, the value and the old cell join to the masked store.
use Rattle.std.proofs.Common.{rules}
use Rattle.masking.proofs.Rules.{value_read, store_on}
use Rattle.masking.proofs.Masking.emit_store.Goals as goal

pub copy_expression-next-requires : goal.copy_expression-next-requires
copy_expression-next-requires c = value_read _ _ _ _ _ _ _ _ _ _ c.emit_store_index-value.ensures.0 c.requires.1.second

pub returns : goal.returns
returns c = (
  store_on _ _ _ _ _ _ _ _ _ _ c.emit_store_index-value.ensures.0 c.args.self.act _ _ _ _ _ _ _ c.requires.1.first.read c.requires.1.second.read
      c.emit_prefix.ensures.0 c.copy_expression-next.ensures.0 c.emit_old_cell.ensures.0,
  search rules,
  search rules,
  search rules,
)
