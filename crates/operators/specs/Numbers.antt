-- The numbers that the definitions have for operators, sorts and the operands that have to be public. Assumes nothing.
use Rattle.std.specs.Prelude.{ℕ}
use Rattle.operators.specs.declared.Sort.{Sort}
use Rattle.operators.specs.declared.Sort.TheVariants.{Word, Boolean}
use Rattle.operators.specs.declared.PublicOperands.{PublicOperands}
use Rattle.operators.specs.declared.PublicOperands.TheVariants.{Neither, Right, Both}
use Rattle.operators.specs.declared.Operator.{Operator}
use Rattle.operators.specs.declared.Operator.TheVariants.{Add, Subtract, Multiply, And, Or, Xor, ShiftLeft, ShiftRight, RotateLeft}
use Rattle.operators.specs.declared.Operator.TheVariants.{Quotient, Remainder, Equal, Less, LogicalAnd, LogicalOr}
use Rattle.operators.specs.declared.unary.UnaryOperator.{UnaryOperator}
use Rattle.operators.specs.declared.unary.UnaryOperator.TheVariants.{Not, Complement, ToWord}

abbrev pub sort_number : Sort → ℕ
sort_number Word = 0
sort_number Boolean = 1

abbrev pub publics_number : PublicOperands → ℕ
publics_number Neither = 0
publics_number Right = 1
publics_number Both = 2

abbrev pub operator_number : Operator → ℕ
operator_number Add = 0
operator_number Subtract = 1
operator_number Multiply = 2
operator_number And = 3
operator_number Or = 4
operator_number Xor = 5
operator_number ShiftLeft = 6
operator_number ShiftRight = 7
operator_number RotateLeft = 8
operator_number Quotient = 9
operator_number Remainder = 10
operator_number Equal = 11
operator_number Less = 12
operator_number LogicalAnd = 13
operator_number LogicalOr = 14

abbrev pub unary_number : UnaryOperator → ℕ
unary_number Not = 0
unary_number Complement = 1
unary_number ToWord = 2
