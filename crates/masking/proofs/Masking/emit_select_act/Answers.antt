-- The word and the act join.
use Rattle.std.proofs.Common.{rules}
use Rattle.masking.proofs.Rules.{select_act}
use Rattle.masking.proofs.Masking.emit_select_act.Goals as goal

pub returns : goal.returns
returns c = search (select_act, rules)
