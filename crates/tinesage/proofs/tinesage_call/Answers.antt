-- `tinesage::tinesage_call`: the place of a refusal or a stop fits a word.
use Rattle.answers.specs.Places.{call_place}
use Rattle.tinesage.proofs.ContractRules.{call_fits}
use Rattle.tinesage.proofs.tinesage_call.Goals as goal

pub put_answer-requires : goal.put_answer-requires
put_answer-requires c = call_fits _ _ _ _ c.call-a.ensures (call_place _ _ _ _ _ _)
