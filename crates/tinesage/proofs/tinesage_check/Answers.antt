-- `tinesage::tinesage_check`: the place of a refusal fits a word.
use Rattle.tinesage.proofs.ContractRules.{check_fits}
use Rattle.tinesage.proofs.tinesage_check.Goals as goal

pub put_checked-requires : goal.put_checked-requires
put_checked-requires c = check_fits _ _ c.check_bytes-a.ensures
