-- The numbers of the kinds of expressions and of the ops of statements, by the names that the code has for them. Assumes nothing.
use Rattle.std.specs.Prelude.{ℕ}
use Rattle.image_words.specs.declared.kinds.Kind.{Kind}
use Rattle.image_words.specs.declared.kinds.Kind.TheVariants.{Constant, RawConstant, Boolean, Variable, Cell, Unary, Binary, Select}
use Rattle.image_words.specs.declared.ops.Op.{Op}
use Rattle.image_words.specs.declared.ops.Op.TheVariants.{Assign, Store, If, For, Return, Call}

abbrev pub kind_number : Kind → ℕ
kind_number Constant = 7
kind_number RawConstant = 8
kind_number Boolean = 9
kind_number Variable = 10
kind_number Cell = 11
kind_number Unary = 12
kind_number Binary = 13
kind_number Select = 14

abbrev pub op_number : Op → ℕ
op_number Assign = 0
op_number Store = 1
op_number If = 2
op_number For = 3
op_number Return = 4
op_number Call = 5
