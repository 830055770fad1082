-- `tinesage::tinesage_compile`: the place of a refusal fits a word.
use Rattle.tinesage.proofs.ContractRules.{compile_fits}
use Rattle.tinesage.proofs.tinesage_compile.Goals as goal

pub put_compiled-requires : goal.put_compiled-requires
put_compiled-requires c = compile_fits _ _ _ _ c.compile_bytes-a.ensures
