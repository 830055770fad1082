-- `tinesage::tinesage_load`: the place of a refusal fits a word.
use Rattle.answers.specs.Places.{load_place}
use Rattle.tinesage.proofs.ContractRules.{fits}
use Rattle.tinesage.proofs.tinesage_load.Goals as goal

pub put_answer-requires : goal.put_answer-requires
put_answer-requires c = fits _ _ _ c.load-a.ensures (load_place _ _)
