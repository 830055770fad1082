-- A call names a procedure before its own.
use Rattle.faults.specs.Parts.{call_listed}
use Rattle.sorts.proofs.leaves.check_call.Goals as goal

pub result_type-requires : goal.result_type-requires
result_type-requires c = (call_listed _ _ _ _ _ c.requires.0.read c.requires.1 _ c.called-f.ensures.0 _ c.args.body.listed).number

pub procedure-requires : goal.procedure-requires
procedure-requires c = (call_listed _ _ _ _ _ c.requires.0.read c.requires.1 _ c.called-f.ensures.0 _ c.args.body.listed).number
