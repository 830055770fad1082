-- The word and the index join.
use Rattle.std.proofs.Common.{rules}
use Rattle.masking.proofs.Rules.{index_on}
use Rattle.masking.proofs.Masking.emit_store_index.Goals as goal

pub returns : goal.returns
returns c = search (index_on, rules)
