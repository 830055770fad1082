-- What a run of a whole procedure comes to, as its answer and the lent slices say it. Assumes nothing.
use Rattle.std.specs.Prelude.{List, ℕ, Result, Ok, Err, length}
use Rattle.definitions.specs.Bytes.{lent}
use Rattle.definitions.specs.Running.{on, halt, Given, gave, Ran as Run}
use Rattle.reasons.specs.Numbers.{reason_number}
use Rattle.tracing.specs.declared.Stop.{Stop}
use Rattle.runner.specs.declared.procedures.Execution.{Execution}

pub data Told : Type 0 where
  -- the result, the steps, the number of trace words recorded, the cells, the lent trace bytes
  result : ℕ → ℕ → ℕ → List ℕ → List ℕ → Told
  -- a stop: number, place, steps, the number of trace words recorded, the lent trace bytes; it says nothing of the cells
  stopped : ℕ → ℕ → ℕ → ℕ → List ℕ → Told

-- an outcome after so many steps, with the number of trace words recorded and what the lent slices hold
unfoldable pub told_of : Result ℕ Stop → ℕ → ℕ → List ℕ → List ℕ → Told
told_of (Ok v) steps count cells trace = result v steps count cells trace
told_of (Err s) steps count cells trace = stopped (reason_number s.reason) s.place steps count trace

-- an answer, with what the lent slices hold
abbrev pub told : Execution → List ℕ → List ℕ → Told
told execution cells trace = told_of execution.outcome execution.steps execution.words cells trace

-- the definition's run, which records trace words: those go over the front of the lent trace bytes
unfoldable pub executed : List ℕ → Run (List ℕ) Given → Told
executed trace (on (gave v cells) steps words) = result v steps (length words) cells (lent trace words)
executed trace (halt number place steps words) = stopped number place steps (length words) (lent trace words)
