-- What the walk of a part that was read gives: what the definitions say of its tree, and the place after it. Assumes nothing.
use Rattle.std.specs.Prelude.{ℕ, Bool, false, ◌&&◌, ◌||◌, not, List, ◌++◌, eqb, leb, get_or}
use Rattle.definitions.specs.declared.Fault.{Fault}
use Rattle.definitions.specs.declared.ConstantLoop.{ConstantLoop}
use Rattle.definitions.specs.Image.{array_length, Expression}
use Rattle.definitions.specs.Operators.{both}
use Rattle.definitions.specs.Reading.{Parse, got, refused}
use Rattle.definitions.specs.Faults.{least, fault_if}
use Rattle.definitions.specs.Labels.{secret_in, unbounded, loop_of, label_faults, argument_label_faults, loop_bound_faults}
use Rattle.labels.specs.Operand.{value_at, bounded_at}
use Rattle.labels.specs.Cursors.{ending}
use Rattle.labels.specs.declared.Cursor.{Cursor}
use Rattle.labels.specs.declared.Labelled.{Labelled}

abbrev pub label : Bool → ℕ → Fault → Labelled
label s n b = record { secret = s; cursor = ending n b }

abbrev pub limiting : ConstantLoop → ℕ → Fault → ConstantLoop × Cursor
limiting i n b = (i, ending n b)

-- an expression: whether it is secret, the place after it, the lowest fault
unfoldable pub labelled : List ℕ → List ℕ → List ConstantLoop → Bool → Fault → Parse Expression → Labelled
labelled types arrays bounds context best (got e n) = label (secret_in types arrays e) n (least best (label_faults types arrays bounds context e))
labelled types arrays bounds context best (refused n p) = label false 0 best

-- the second of two expressions behind the first
abbrev pub joined : Labelled → Labelled → Labelled
joined a b = label (a.secret || b.secret) b.cursor.at b.cursor.best

unfoldable pub labelled_two : List ℕ → List ℕ → List ConstantLoop → Bool → Fault → Parse Expression → Parse Expression → Labelled
labelled_two types arrays bounds context best x y =
    joined (labelled types arrays bounds context best x) (labelled types arrays bounds context (labelled types arrays bounds context best x).cursor.best y)

-- the lowest fault after an index at a place was judged
unfoldable pub index_noted : List ℕ → List ℕ → List ConstantLoop → Bool → ℕ → ℕ → Bool → Fault → Fault
index_noted image arrays bounds context a at secret best =
    least (least best (fault_if secret 10 at)) (fault_if (context && not (bounded_at image bounds (array_length (get_or arrays a 0)) at)) 11 at)

-- the lowest fault after the operands of an operator were judged
unfoldable pub operator_noted : List ℕ → ℕ → Bool → ℕ → Bool → ℕ → Bool → Fault → Fault
operator_noted image publics context left leftSecret right rightSecret best =
    least
    (least (least best (fault_if (eqb publics both && leftSecret) 10 left)) (fault_if (leb 1 publics && rightSecret) 10 right))
    (fault_if (context && (eqb publics both && eqb (value_at image right) 0)) 11 right)

module _ (types arrays : List ℕ) (bounds : List ConstantLoop) (context : Bool) where
  -- the arguments of a call from number k on, by the type words of the called procedure
  unfoldable pub argued_all : List ℕ → ℕ → Fault → Parse (List Expression) → Cursor
  argued_all callee k best (got es n) = ending n (least best (argument_label_faults types arrays bounds context callee k es))
  argued_all callee k best (refused n p) = ending 0 best

  -- one of a for's bounds
  unfoldable pub bounding : Fault → Parse Expression → Labelled
  bounding best (got e n) = label (secret_in types arrays e) n (least best (loop_bound_faults types arrays bounds context e))
  bounding best (refused n p) = label false 0 best

  -- both bounds of a for, and the for that is around its variable in its block
  unfoldable pub limited : Fault → Parse Expression → Parse Expression → ConstantLoop × Cursor
  limited best (got f n) (got t m) =
      limiting (loop_of f t) m
      (least best (loop_bound_faults types arrays bounds context f ++ loop_bound_faults types arrays bounds context t))
  limited best (got f n) (refused m p) = limiting unbounded 0 best
  limited best (refused n p) y = limiting unbounded 0 best
