-- "Binary operators, in a fixed table of sorts", and what each operator computes.
use Rattle.std.specs.Prelude.{List, [], ◌∷◌, Bool, ◌||◌, ℕ, eqb, leb, get_or}
use Rattle.std.specs.Int.Bits.{bit_and, bit_or, bit_xor}
use Rattle.definitions.specs.Arithmetic.{add, subtract, multiply, shift_left, shift_right, rotate_left, quotient}
use Rattle.definitions.specs.Arithmetic.{remainder, equal, less, logical_and, logical_or, logical_not, complement}
use Rattle.definitions.specs.Arithmetic.{truth}

-- "sort 0 word, 1 boolean"
abbrev pub word_sort : ℕ
word_sort = 0

abbrev pub boolean_sort : ℕ
boolean_sort = 1

-- "shift counts and both sides of a division are public": which operands have to be; a shift's count is the right one
abbrev pub neither : ℕ
neither = 0

abbrev pub right : ℕ
right = 1

abbrev pub both : ℕ
both = 2

-- an operator takes two operands of one sort
pub record Row : Type 0 where
  pub operands : ℕ
  pub result : ℕ
  pub publics : ℕ

abbrev pub row : ℕ → ℕ → ℕ → Row
row o r p = record { operands = o; result = r; publics = p }

-- "0 add, 1 subtract, 2 multiply (modulo 2^32), 3 and, 4 or, 5 xor, 6 shift left, 7 shift right, 8 rotate left (counts
-- modulo 32), 9 quotient, 10 remainder: words to word. 11 equal, 12 less (unsigned): words to boolean. 13 and, 14 or:
-- booleans."
abbrev pub operators : List Row
operators = row word_sort word_sort neither ∷ row word_sort word_sort neither ∷ row word_sort word_sort neither
    ∷ row word_sort word_sort neither ∷ row word_sort word_sort neither ∷ row word_sort word_sort neither
    ∷ row word_sort word_sort right ∷ row word_sort word_sort right ∷ row word_sort word_sort right
    ∷ row word_sort word_sort both ∷ row word_sort word_sort both
    ∷ row word_sort boolean_sort neither ∷ row word_sort boolean_sort neither
    ∷ row boolean_sort boolean_sort neither ∷ row boolean_sort boolean_sort neither ∷ []

-- the row of an operator by its number; past the table, any row
abbrev pub operator : ℕ → Row
operator op = get_or operators op (row word_sort word_sort neither)

abbrev pub left_public : ℕ → Bool
left_public op = eqb (operator op).publics both

abbrev pub right_public : ℕ → Bool
right_public op = leb right (operator op).publics

-- "0 add": the operator that adds
abbrev pub adds : ℕ → Bool
adds op = eqb op 0

-- "9 quotient, 10 remainder": the operators that divide
abbrev pub divides : ℕ → Bool
divides op = eqb op 9 || eqb op 10

-- "6 shift left, 7 shift right, 8 rotate left": those whose right operand is a count
abbrev pub shifts : ℕ → Bool
shifts op = eqb op 6 || eqb op 7 || eqb op 8

-- the operators by number, in the table's order; "3 and, 4 or, 5 xor" go bit by bit
abbrev pub binary_operations : List (ℕ → ℕ → ℕ)
binary_operations = add ∷ subtract ∷ multiply ∷ bit_and ∷ bit_or ∷ bit_xor ∷ shift_left ∷ shift_right ∷ rotate_left
    ∷ quotient ∷ remainder ∷ equal ∷ less ∷ logical_and ∷ logical_or ∷ []

-- the value of an operator by its number, its left and its right operand; past the table, 0
unfoldable pub apply_binary : ℕ → ℕ → ℕ → ℕ
apply_binary op a b = get_or binary_operations op (λ x y. 0) a b

-- "C unary: 0 not, 1 complement, 2 boolean as word"
abbrev pub unary_operations : List (ℕ → ℕ)
unary_operations = logical_not ∷ complement ∷ truth ∷ []

unfoldable pub apply_unary : ℕ → ℕ → ℕ
apply_unary op a = get_or unary_operations op (λ x. 0) a

abbrev pub unary_operand : ℕ → ℕ
unary_operand op = get_or (boolean_sort ∷ word_sort ∷ boolean_sort ∷ []) op word_sort

abbrev pub unary_result : ℕ → ℕ
unary_result op = get_or (boolean_sort ∷ word_sort ∷ word_sort ∷ []) op word_sort
