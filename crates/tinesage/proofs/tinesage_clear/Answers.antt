-- `tinesage::tinesage_clear`: the place of a refusal fits a word.
use Rattle.answers.specs.Places.{clear_place}
use Rattle.tinesage.proofs.ContractRules.{fits}
use Rattle.tinesage.proofs.tinesage_clear.Goals as goal

pub put_answer-requires : goal.put_answer-requires
put_answer-requires c = fits _ _ _ c.clear-a.ensures (clear_place _ _)
