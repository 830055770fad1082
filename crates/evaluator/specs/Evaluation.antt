-- What the code's evaluation of words gives: the definition's result on the tree that was read. Assumes nothing.
use Rattle.std.specs.Prelude.{List, ℕ}
use Rattle.definitions.specs.Image.{Expression}
use Rattle.definitions.specs.Reading.{Parse, got, refused}
use Rattle.definitions.specs.Running.{Evaluated, value, stop, bind, evaluate}
use Rattle.tracing.specs.Log.{Log, byte_trace}
use Rattle.evaluator.specs.declared.Value.{Value}

-- a value, with the place after what it was read from
abbrev pub found : ℕ → ℕ → Value
found v n = record { word = v; next = n }

-- a result, with the place after what it was read from
unfoldable pub until : ℕ → Evaluated Log ℕ → Evaluated Log Value
until next x = bind x (λ v t. value (found v next) t)

-- the value of the expression that was read, with the place after it
unfoldable pub evaluate_at : List ℕ → List ℕ → List ℕ → Log → Parse Expression → Evaluated Log Value
evaluate_at arrays vars cells t (got e n) = until n (evaluate byte_trace arrays e vars cells t)
evaluate_at arrays vars cells t (refused n p) = stop n p t
