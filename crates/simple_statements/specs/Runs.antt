-- How the answer of the code's run over words is read as the definition's result, and the definition's result on the tree that was read.
-- Assumes nothing.
use Rattle.std.specs.Prelude.{◌≡◌, List, ℕ, Result, Ok, Err}
use Rattle.std.proofs.lemmas.List.Edits.{sets}
use Rattle.definitions.specs.Arithmetic.{truth}
use Rattle.definitions.specs.Image.{Expression, Statement, Image}
use Rattle.definitions.specs.Reading.{Parse, got, refused, read_statement}
use Rattle.definitions.specs.Running.{Evaluated, value, stop, bind, emit, on, halt, and_go, Outcome, next, back, Callee}
use Rattle.definitions.specs.Running.{evaluate, evaluate_all, run_statement, run_procedure, Ran as Run}
use Rattle.laws.specs.ImageIn.{image_in}
use Rattle.reasons.specs.Numbers.{reason_number}
use Rattle.tables.specs.Table.{params_in}
use Rattle.tracing.specs.declared.Stop.{Stop}
use Rattle.tracing.specs.Log.{Log, byte_trace}
use Rattle.tracing.specs.Answers.{SameBytes, logged}
use Rattle.evaluator.specs.declared.Value.{Value}
use Rattle.evaluator.specs.Cells.{numbered}
use Rattle.evaluator.specs.Evaluation.{until}
use Rattle.simple_statements.specs.declared.Ran.{Ran}
use Rattle.simple_statements.specs.declared.Ran.TheVariants.{On, Back}
use Rattle.simple_statements.specs.declared.Bounds.{Bounds}
use Rattle.simple_statements.specs.declared.Scope.{Scope}
use Rattle.simple_statements.specs.declared.State.{State}

-- an outcome, with the place where the run goes on
pub data Went : Type 0 where
  -- the place, the variables, the cells
  went : ℕ → List ℕ → List ℕ → Went
  -- the value returned, the cells
  gone : ℕ → List ℕ → Went

-- the cells and the trace bytes are those of the same arrays
abbrev pub SameLent : State → State → Type 0
SameLent old new =
    (new.cells.ghost_name ≡ old.cells.ghost_name) × (new.trace.ghost_name ≡ old.trace.ghost_name) × SameBytes old.trace.now new.trace.now

-- an answer, with the variables and what a run changes: a stop says nothing of the variables and cells, a return nothing of the variables
abbrev pub finished : Result Ran Stop → List ℕ → State → Run Log Went
finished (Ok (On at)) vars state = on (went at vars state.cells.now) state.steps (logged state.trace.now)
finished (Ok (Back v)) vars state = on (gone v state.cells.now) state.steps (logged state.trace.now)
finished (Err s) vars state = halt (reason_number s.reason) s.place state.steps (logged state.trace.now)

-- the place after what was run
unfoldable pub placed : ℕ → Outcome → ℕ → Log → Run Log Went
placed n (next vs cs) z t = on (went n vs cs) z t
placed n (back v cs) z t = on (gone v cs) z t

unfoldable pub ending : ℕ → Run Log Outcome → Run Log Went
ending n x = and_go x (placed n)

-- the procedures that the body of procedure `me` can call
abbrev pub callees : ℕ → Image → ℕ → Callee Log
callees budget program me = λ f ws z t cs. run_procedure byte_trace budget program.arrays program.procedures me f ws z t cs

-- the run of the statement that was read at place l, its step taken
unfoldable pub statement_at : ℕ → Image → ℕ → ℕ → ℕ → Log → List ℕ → List ℕ → Parse Statement → Run Log Went
statement_at budget program me l z t vs cs (got s n) =
    ending n (run_statement byte_trace budget program.arrays (callees budget program me) l s z t vs cs)
statement_at budget program me l z t vs cs (refused k p) = halt k p z t

-- the run of the statement at a place of a body, from what a run changes
abbrev pub statement_run : Scope → ℕ → ℕ → List ℕ → State → Run Log Went
statement_run scope level at vars state =
    statement_at scope.budget (image_in scope.program.image.now) scope.me at state.steps (logged state.trace.now) vars state.cells.now
    (read_statement level (params_in scope.program.table.now) scope.me scope.program.image.now at)

-- ---- parts of statements

-- an if's condition with its entry; the value is 0 or 1
unfoldable pub branch_at : List ℕ → ℕ → List ℕ → List ℕ → Log → Parse Expression → Evaluated Log Value
branch_at arrays l vs cs t (got e n) = until n (bind (evaluate byte_trace arrays e vs cs t) (λ v u. emit byte_trace 1 l (truth v) u))
branch_at arrays l vs cs t (refused k p) = stop k p t

-- a store's index with its entry and test; the value is the number of its cell among all cells
unfoldable pub slot_at : List ℕ → List ℕ → ℕ → ℕ → List ℕ → List ℕ → Log → Parse Expression → Evaluated Log Value
slot_at arrays table a l vs cs t (got e n) = until n (bind (evaluate byte_trace arrays e vs cs t) (λ v u. numbered table a l v u))
slot_at arrays table a l vs cs t (refused k p) = stop k p t

-- a for's bounds
abbrev pub range : ℕ → ℕ → ℕ → Bounds
range v w n = record { from = v; to = w; next = n }

-- both bounds' entries
unfoldable pub range_noted : ℕ → ℕ → ℕ → ℕ → Log → Evaluated Log Bounds
range_noted l v w n t = bind (emit byte_trace 2 l v t) (λ i y. bind (emit byte_trace 3 l w y) (λ j q. value (range v w n) q))

-- both bounds with their entries, of the expressions e and f, which end at place n
unfoldable pub bounds : List ℕ → ℕ → Expression → Expression → ℕ → List ℕ → List ℕ → Log → Evaluated Log Bounds
bounds arrays l e f n vs cs t =
    bind (evaluate byte_trace arrays e vs cs t)
    (λ v u. bind (evaluate byte_trace arrays f vs cs u)
    (λ w x. range_noted l v w n x))

unfoldable pub bounds_at : List ℕ → ℕ → List ℕ → List ℕ → Log → Parse Expression → Parse Expression → Evaluated Log Bounds
bounds_at arrays l vs cs t (got e n) (got f m) = bounds arrays l e f m vs cs t
bounds_at arrays l vs cs t (got e n) (refused k p) = stop k p t
bounds_at arrays l vs cs t (refused k p) y = stop k p t

-- a call's values, and the place after them
pub data Values : Type 0 where
  given : List ℕ → ℕ → Values

abbrev pub framing : Result ℕ Stop → List ℕ → Log → Evaluated Log Values
framing (Ok at) values t = value (given values at) t
framing (Err s) values t = stop (reason_number s.reason) s.place t

-- values that are stored from index k on
unfoldable pub values_at : List ℕ → List ℕ → List ℕ → Log → List ℕ → ℕ → Parse (List Expression) → Evaluated Log Values
values_at arrays vs cs t values k (got es n) =
    bind (evaluate_all byte_trace arrays es vs cs t) (λ ws u. value (given (sets values k ws) n) u)
values_at arrays vs cs t values k (refused i p) = stop i p t
