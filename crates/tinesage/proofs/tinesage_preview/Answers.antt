-- `tinesage::tinesage_preview`: the place of a refusal or a stop fits a word.
use Rattle.answers.specs.Places.{preview_place}
use Rattle.tinesage.proofs.ContractRules.{call_fits}
use Rattle.tinesage.proofs.tinesage_preview.Goals as goal

pub put_answer-requires : goal.put_answer-requires
put_answer-requires c = call_fits _ _ _ _ c.preview-a.ensures (preview_place _ _ _ _ _ _)
