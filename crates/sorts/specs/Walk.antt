-- What the walk of a part that was read gives: what the definitions say of its tree, and the place after it. Assumes nothing.
use Rattle.std.specs.Prelude.{ℕ, not, List, leb, eqb, length, get_or}
use Rattle.definitions.specs.declared.Fault.{Fault}
use Rattle.definitions.specs.Image.{Expression, Statement, Block, Procedure}
use Rattle.definitions.specs.Reading.{Parse, got, refused}
use Rattle.definitions.specs.Faults.{least, fault_if}
use Rattle.definitions.specs.Sorts.{sort_in, sort_faults, operand_faults, argument_faults, statement_sort_faults}
use Rattle.definitions.specs.Sorts.{block_sort_faults}
use Rattle.sorts.specs.declared.Scope.{Scope}
use Rattle.sorts.specs.declared.WalkedExpression.{WalkedExpression}
use Rattle.sorts.specs.declared.Walked.{Walked}
use Rattle.sorts.specs.Numbers.{number_of}

-- what the walk of an expression found, with its sort by number
pub record Found : Type 0 where
  pub sort : ℕ
  pub next : ℕ
  pub best : Fault

abbrev pub found : ℕ → ℕ → Fault → Found
found s n b = record { sort = s; next = n; best = b }

abbrev pub view : WalkedExpression → Found
view w = found (number_of w.sort) w.next w.best

abbrev pub walk : ℕ → Fault → Walked
walk n b = record { next = n; best = b }

-- the lowest fault so far, after the two that a written variable can have
abbrev pub target_noted : List ℕ → List ℕ → ℕ → ℕ → Fault → Fault
target_noted types marks x at best =
    least (least best (fault_if (leb (length types) x) 6 at)) (fault_if (not (eqb (get_or marks x 0) 0)) 8 at)

-- over the type words of the variables, the number of arrays, the marks
module _ (types : List ℕ) (arrays : ℕ) (marks : List ℕ) where
  unfoldable pub expression_walked : Fault → Parse Expression → Found
  expression_walked best (got e n) = found (sort_in types e) n (least best (sort_faults types arrays marks e))
  expression_walked best (refused n p) = found 0 0 best

  -- an operand that has to have a sort
  unfoldable pub operand_walked : ℕ → Fault → Parse Expression → Found
  operand_walked want best (got e n) = found (sort_in types e) n (least best (operand_faults types arrays marks want e))
  operand_walked want best (refused n p) = found 0 0 best

  -- the values of a call from number k on, by the type words of the called procedure
  unfoldable pub arguments_walked : List ℕ → ℕ → Fault → Parse (List Expression) → Walked
  arguments_walked callee k best (got es n) = walk n (least best (argument_faults types arrays marks callee k es))
  arguments_walked callee k best (refused n p) = walk 0 best

-- over the image's procedures too, and the procedure whose body it is
module _ (ps : List Procedure) (types : List ℕ) (arrays : ℕ) (marks : List ℕ) (scope : Scope) where
  unfoldable pub statement_walked : ℕ → Fault → Parse Statement → Walked
  statement_walked p best (got s n) =
      walk n (least best (statement_sort_faults ps scope.parameters types scope.result arrays marks p s))
  statement_walked p best (refused n q) = walk 0 best

  unfoldable pub block_walked : Fault → Parse Block → Walked
  block_walked best (got b n) = walk n (least best (block_sort_faults ps scope.parameters types scope.result arrays marks b))
  block_walked best (refused n q) = walk 0 best
