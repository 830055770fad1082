-- The procedure that is called is one of the program's, and its arguments stand behind the call's word.
use Rattle.faults.specs.Parts.{call_listed}
use Rattle.labels.proofs.LeafRules.{called_fine, arguments_fine}
use Rattle.labels.proofs.leaves.label_call.Goals as goal

pub result_type-requires : goal.result_type-requires
result_type-requires c = called_fine _ _ _ _ _ c.requires.0 _ c.args.walk.listed c.requires.1 _ c.called-f.ensures.0

pub is_guarded-guarded-requires : goal.is_guarded-guarded-requires
is_guarded-guarded-requires c = called_fine _ _ _ _ _ c.requires.0 _ c.args.walk.listed c.requires.1 _ c.called-f.ensures.0

pub label_arguments-behind-requires : goal.label_arguments-behind-requires
label_arguments-behind-requires c = (
  call_listed _ _ _ _ _ c.requires.0.read c.requires.1 _ c.called-f.ensures.0 _ c.args.walk.listed,
  arguments_fine _ _ _ _ _ c.requires.0 c.requires.1 _ c.called-f.ensures.0,
)
