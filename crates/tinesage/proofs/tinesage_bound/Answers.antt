-- `tinesage::tinesage_bound`: the place of a refusal fits a word.
use Rattle.answers.specs.Places.{bound_place}
use Rattle.tinesage.proofs.ContractRules.{fits}
use Rattle.tinesage.proofs.tinesage_bound.Goals as goal

pub put_answer-requires : goal.put_answer-requires
put_answer-requires c = fits _ _ _ c.bound-a.ensures (bound_place _ _ _)
