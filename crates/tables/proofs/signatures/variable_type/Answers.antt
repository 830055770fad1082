-- The type of a variable that a listed procedure has, and of one that it has not. Assumes nothing.
use Rattle.tables.proofs.Rules.{type_there, type_none}
use Rattle.tables.proofs.signatures.variable_type.Goals as goal

pub returns-then-k-variables : goal.returns-then-k-variables
returns-then-k-variables c =
    type_there _ _ _ c.requires _ c.procedure_word.ensures _ _ c.variables.ensures.0 c.if-k-variables.true _ _ _ c.place.ensures.0
    c.wide.ensures.0 c.element.ensures

pub returns : goal.returns
returns c = type_none _ _ _ c.requires _ c.procedure_word.ensures _ _ c.variables.ensures.0 c.if-k-variables.false
