-- `tinesage::tinesage_poke`: the place of a refusal fits a word.
use Rattle.answers.specs.Places.{poke_place}
use Rattle.tinesage.proofs.ContractRules.{fits}
use Rattle.tinesage.proofs.tinesage_poke.Goals as goal

pub put_answer-requires : goal.put_answer-requires
put_answer-requires c = fits _ _ _ c.poke-a.ensures (poke_place _ _ _ _ _)
