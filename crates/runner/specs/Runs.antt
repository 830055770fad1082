-- How the answer of the code's run over words is read as the definition's result, and the definition's result on the tree that was read.
-- Assumes nothing.
use Rattle.std.specs.Prelude.{List, [], ◌∷◌, ◌++◌, ◌-◌, ℕ, get_or, replicate, Result, Ok, Err}
use Rattle.definitions.specs.Image.{Block, Image, procedure_at}
use Rattle.definitions.specs.Reading.{Parse, got, refused, read_block}
use Rattle.definitions.specs.Running.{on, halt, and_go, Given, gave, finish, passes, run_block, Ran as Run}
use Rattle.tables.specs.Table.{params_in}
use Rattle.tables.specs.Looking.{Listed}
use Rattle.reader.specs.Ends.{BlockEnds}
use Rattle.laws.specs.ImageIn.{image_in}
use Rattle.reasons.specs.Numbers.{reason_number}
use Rattle.tracing.specs.declared.Stop.{Stop}
use Rattle.tracing.specs.Log.{Log, byte_trace}
use Rattle.tracing.specs.Answers.{logged}
use Rattle.simple_statements.specs.declared.Scope.{Scope}
use Rattle.simple_statements.specs.declared.State.{State}
use Rattle.simple_statements.specs.Runs.{Went, ending, callees}
use Rattle.runner.specs.declared.blocks.Passes.{Passes}

-- what running the body of procedure `me` takes for granted: the tables fit the image
pub record Ready (image table ends : List ℕ) (me : ℕ) : Type 0 where
  pub listed : Listed image table me
  pub block_ends : BlockEnds image (params_in table) ends

-- the run of the block that was read, and of statements
unfoldable pub block_at : ℕ → Image → ℕ → ℕ → Log → List ℕ → List ℕ → Parse Block → Run Log Went
block_at budget program me z t vs cs (got b n) =
    ending n (run_block byte_trace budget program.arrays (callees budget program me) b z t vs cs)
block_at budget program me z t vs cs (refused k p) = halt k p z t

-- n passes of a for at place l over the block that was read, the next with variable x at i; then on to the given place
unfoldable pub passes_at : ℕ → Image → ℕ → ℕ → ℕ → ℕ → ℕ → ℕ → ℕ → Log → List ℕ → List ℕ → Parse Block → Run Log Went
passes_at budget program me l x n i after z t vs cs (got b m) =
    ending after (passes budget l x (λ y u us ds. run_block byte_trace budget program.arrays (callees budget program me) b y u us ds) n i z t vs cs)
passes_at budget program me l x n i after z t vs cs (refused k p) = halt k p z t

-- the run of the block at a place of a body, from what a run changes; and of a for whose bounds are known
abbrev pub block_run : Scope → ℕ → ℕ → List ℕ → State → Run Log Went
block_run scope level at vars state =
    block_at scope.budget (image_in scope.program.image.now) scope.me state.steps (logged state.trace.now) vars state.cells.now
    (read_block level (params_in scope.program.table.now) scope.me scope.program.image.now at)

abbrev pub passes_run : Scope → ℕ → Passes → List ℕ → State → Run Log Went
passes_run scope level passes vars state =
    passes_at scope.budget (image_in scope.program.image.now) scope.me passes.place passes.x (passes.bounds.to - passes.bounds.from) passes.bounds.from passes.next
    state.steps (logged state.trace.now) vars state.cells.now
    (read_block level (params_in scope.program.table.now) scope.me scope.program.image.now passes.bounds.next)

-- what a procedure's answer says, with what the run changed
abbrev pub returned : Result ℕ Stop → State → Run Log Given
returned (Ok v) state = on (gave v state.cells.now) state.steps (logged state.trace.now)
returned (Err s) state = halt (reason_number s.reason) s.place state.steps (logged state.trace.now)

-- what stands in an array of nine
abbrev pub nine : List ℕ → List ℕ
nine l = get_or l 0 0 ∷ get_or l 1 0 ∷ get_or l 2 0 ∷ get_or l 3 0 ∷ get_or l 4 0 ∷ get_or l 5 0 ∷ get_or l 6 0 ∷ get_or l 7 0 ∷ get_or l 8 0 ∷ []

-- a procedure's variables where it begins: its nine values, then zeros
abbrev pub framed : List ℕ → List ℕ
framed values = nine values ++ replicate 246 0

-- the run of procedure f on its values
unfoldable pub procedure_run : ℕ → Image → ℕ → ℕ → Log → List ℕ → List ℕ → Run Log Given
procedure_run budget program f z t values cs =
    and_go (run_block byte_trace budget program.arrays (callees budget program f) (procedure_at program.procedures f).body z t (framed values) cs) finish

abbrev pub body_run : Scope → List ℕ → State → Run Log Given
body_run scope values state =
    procedure_run scope.budget (image_in scope.program.image.now) scope.me state.steps (logged state.trace.now) values state.cells.now
