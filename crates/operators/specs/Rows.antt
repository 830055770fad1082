-- A row of the program's table as the definition has it. Assumes nothing.
use Rattle.definitions.specs.Operators.{Row as Defined, row}
use Rattle.operators.specs.Numbers.{sort_number, publics_number}
use Rattle.operators.specs.declared.Row.{Row}

abbrev pub view : Row → Defined
view r = row (sort_number r.0) (sort_number r.1) (publics_number r.2)
