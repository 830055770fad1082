-- `tinesage::tinesage_describe`: the place of a refusal fits a word.
use Rattle.tinesage.proofs.ContractRules.{describe_fits}
use Rattle.tinesage.proofs.tinesage_describe.Goals as goal

pub put_compiled-requires : goal.put_compiled-requires
put_compiled-requires c = describe_fits _ _ _ _ c.describe_bytes-a.ensures
