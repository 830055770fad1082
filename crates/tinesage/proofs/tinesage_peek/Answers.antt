-- `tinesage::tinesage_peek`: the place of a refusal fits a word.
use Rattle.answers.specs.Places.{peek_place}
use Rattle.tinesage.proofs.ContractRules.{fits}
use Rattle.tinesage.proofs.tinesage_peek.Goals as goal

pub put_answer-requires : goal.put_answer-requires
put_answer-requires c = fits _ _ _ c.peek-a.ensures (peek_place _ _ _ _)
