-- The numbers that the definitions have for sorts and marks. Assumes nothing.
use Rattle.std.specs.Prelude.{ℕ, Option, Some, None}
use Rattle.operators.specs.declared.Sort.{Sort}
use Rattle.operators.specs.Numbers.{sort_number}
use Rattle.sorts.specs.declared.mark_table.Mark.{Mark}
use Rattle.sorts.specs.declared.mark_table.Mark.TheVariants.{Ordinary, Outside, Inside}

-- what names no variable has no sort
abbrev pub number_of : Option Sort → ℕ
number_of (Some s) = sort_number s
number_of None = 2

abbrev pub mark_number : Mark → ℕ
mark_number Ordinary = 0
mark_number Outside = 1
mark_number Inside = 2
