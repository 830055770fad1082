-- What a pass of the checker found. Assumes nothing.
use Rattle.std.specs.Prelude.{Option, Some, None, eqb}
use Rattle.definitions.specs.Choice.{pick}
use Rattle.definitions.specs.declared.Fault.{Fault}

-- a fault of number 0 is none
abbrev pub some_fault : Fault → Option Fault
some_fault f = pick (eqb f.number 0) None (Some f)
