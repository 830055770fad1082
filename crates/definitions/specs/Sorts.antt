-- Document 01: the sorts of expressions, and the faults 6 (no such variable or array), 7 (wrong sort) and 8 (loop
-- variable rule). All faults are listed, in the order of the words; the answer is the least of them (Faults).
use Rattle.std.specs.Prelude.{ℕ, ◌+◌, ◌&&◌, ◌||◌, not, ltb, leb, eqb, length, get_or, set, replicate}
use mathlib.Core.List.{List, [], ◌∷◌, ◌++◌, flat_map}
use Rattle.definitions.specs.Choice.{pick}
use Rattle.definitions.specs.declared.Fault.{Fault}
use Rattle.definitions.specs.Operators.{operator, word_sort, boolean_sort, unary_operand, unary_result}
use Rattle.definitions.specs.Image.{Expression, constant, boolean, variable, cell, unary, binary, select, place_of}
use Rattle.definitions.specs.Image.{Statement, assign, store, conditional, loop, return, call, Block, done}
use Rattle.definitions.specs.Image.{sequence, Procedure, Image, procedure_at, type_secret, type_sort}
use Rattle.definitions.specs.Faults.{fault_if}

-- the sort of what "6 leaves .. unknown"
abbrev pub no_sort : ℕ
no_sort = 2

-- a variable's sort, by the type words of its procedure's variables
abbrev pub sort_of : List ℕ → ℕ → ℕ
sort_of types x = pick (ltb x (length types)) (type_sort (get_or types x 0)) no_sort

-- "a fixed table of sorts"; a select's "sort is the first value's"
unfoldable pub sort_in : List ℕ → Expression → ℕ
sort_in types (constant p v) = word_sort
sort_in types (boolean p v) = boolean_sort
sort_in types (variable p x) = sort_of types x
sort_in types (cell p a i) = word_sort
sort_in types (unary p o e) = unary_result o
sort_in types (binary p o e f) = (operator o).result
sort_in types (select p c e f) = sort_in types e

-- "7 [..] wrong sort, none where 6 leaves the sort unknown": one sort is wanted and another is there
abbrev pub wrong_sort : ℕ → ℕ → ℕ → List Fault
wrong_sort want have p = fault_if (not (eqb want no_sort) && (not (eqb have no_sort) && not (eqb want have))) 7 p

-- What the fors make of each variable of a procedure: "A variable named by a for is a loop variable .. read only in the
-- block of a for over it".
abbrev pub ordinary : ℕ
ordinary = 0

abbrev pub outside : ℕ
outside = 1

abbrev pub inside : ℕ
inside = 2

-- the variables that a for names are marked as loop variables outside their blocks
unfoldable mutual
  pub mark_statement : Statement → List ℕ → List ℕ
  mark_statement (assign x e) marks = marks
  mark_statement (store a i e) marks = marks
  mark_statement (conditional c a b) marks = mark_block b (mark_block a marks)
  mark_statement (loop x f t b) marks = mark_block b (set marks x outside)
  mark_statement (return e) marks = marks
  mark_statement (call f x es) marks = marks

  pub mark_block : Block → List ℕ → List ℕ
  mark_block done marks = marks
  mark_block (sequence p s b) marks = mark_block b (mark_statement s marks)

-- over the type words of the variables, the number of arrays, and what the fors make of each variable
module _ (types : List ℕ) (arrays : ℕ) (marks : List ℕ) where
  -- the faults of an expression
  unfoldable pub sort_faults : Expression → List Fault
  sort_faults (constant p v) = []
  sort_faults (boolean p v) = []
  sort_faults (variable p x) = fault_if (leb (length types) x) 6 p ++ fault_if (eqb (get_or marks x 0) outside) 8 p
  sort_faults (cell p a i) = fault_if (leb arrays a) 6 p
      ++ (sort_faults i ++ wrong_sort word_sort (sort_in types i) (place_of i))
  sort_faults (unary p o e) = sort_faults e ++ wrong_sort (unary_operand o) (sort_in types e) (place_of e)
  sort_faults (binary p o e f) = sort_faults e
      ++ (wrong_sort (operator o).operands (sort_in types e) (place_of e)
      ++ (sort_faults f ++ wrong_sort (operator o).operands (sort_in types f) (place_of f)))
  sort_faults (select p c e f) = sort_faults c
      ++ (wrong_sort boolean_sort (sort_in types c) (place_of c)
      ++ (sort_faults e ++ (sort_faults f ++ wrong_sort (sort_in types e) (sort_in types f) (place_of f))))

  -- an operand that has to have a sort
  abbrev pub operand_faults : ℕ → Expression → List Fault
  operand_faults want e = sort_faults e ++ wrong_sort want (sort_in types e) (place_of e)

  -- "one value per parameter": the parameters' type words are those of the called procedure, from number k on
  unfoldable pub argument_faults : List ℕ → ℕ → List Expression → List Fault
  argument_faults callee k [] = []
  argument_faults callee k (e ∷ es) = operand_faults (sort_of callee k) e ++ argument_faults callee (k + 1) es

-- "a public word local .. with no for over it inside that block"
abbrev pub loop_fault : List ℕ → ℕ → List ℕ → ℕ → ℕ → List Fault
loop_fault types parameters marks x p =
    fault_if
    (ltb x parameters
    || (type_secret (get_or types x 0)
    || (eqb (type_sort (get_or types x 0)) boolean_sort || eqb (get_or marks x 0) inside))) 8 p

-- over the image's procedures; the number of parameters, the type words and the result's type word of the procedure; the
-- number of arrays
module _ (ps : List Procedure) (parameters : ℕ) (types : List ℕ) (result arrays : ℕ) where
  -- the faults of a statement at place p, by the marks there, and of a block
  unfoldable mutual
    pub statement_sort_faults : List ℕ → ℕ → Statement → List Fault
    statement_sort_faults marks p (assign x e) = fault_if (leb (length types) x) 6 p
        ++ (fault_if (not (eqb (get_or marks x 0) ordinary)) 8 p ++ operand_faults types arrays marks (sort_of types x) e)
    statement_sort_faults marks p (store a i e) = fault_if (leb arrays a) 6 p
        ++ (operand_faults types arrays marks word_sort i ++ operand_faults types arrays marks word_sort e)
    statement_sort_faults marks p (conditional c a b) =
        operand_faults types arrays marks boolean_sort c ++ (block_sort_faults marks a ++ block_sort_faults marks b)
    statement_sort_faults marks p (loop x f t b) = fault_if (leb (length types) x) 6 p
        ++ (loop_fault types parameters marks x p
        ++ (operand_faults types arrays marks word_sort f
        ++ (operand_faults types arrays marks word_sort t ++ block_sort_faults (set marks x inside) b)))
    statement_sort_faults marks p (return e) = operand_faults types arrays marks (type_sort result) e
    statement_sort_faults marks p (call f x es) = fault_if (leb (length types) x) 6 p
        ++ (fault_if (not (eqb (get_or marks x 0) ordinary)) 8 p
        ++ (wrong_sort (type_sort (procedure_at ps f).result) (sort_of types x) p
        ++ argument_faults types arrays marks (procedure_at ps f).types 0 es))

    pub block_sort_faults : List ℕ → Block → List Fault
    block_sort_faults marks done = []
    block_sort_faults marks (sequence p s b) = statement_sort_faults marks p s ++ block_sort_faults marks b

-- A mark for each number that a variable can have: at most 255 of them.
unfoldable pub procedure_sort_faults : List Procedure → ℕ → Procedure → List Fault
procedure_sort_faults ps arrays me = block_sort_faults ps me.parameters me.types me.result arrays
    (mark_block me.body (replicate 256 ordinary)) me.body

-- the faults of some of an image's procedures, one after the other
unfoldable pub procedures_sort_faults : List Procedure → ℕ → List Procedure → List Fault
procedures_sort_faults ps arrays some = flat_map (λ me. procedure_sort_faults ps arrays me) some

unfoldable pub image_sort_faults : Image → List Fault
image_sort_faults image = procedures_sort_faults image.procedures (length image.arrays) image.procedures
