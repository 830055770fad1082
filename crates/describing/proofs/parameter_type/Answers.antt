-- The type of a parameter, or none.
use Rattle.describing.proofs.Rules.{type_there, type_none}
use Rattle.describing.proofs.parameter_type.Goals as goal

pub returns-then-k-parameters : goal.returns-then-k-parameters
returns-then-k-parameters c =
    type_there _ _ _ c.args.program.known c.requires _ c.parameters.ensures _ c.if-k-parameters.true _ _ c.variable_type.ensures c.payload.ensures.0

pub returns : goal.returns
returns c = type_none _ _ _ c.args.program.known c.requires _ c.parameters.ensures _ c.if-k-parameters.false
