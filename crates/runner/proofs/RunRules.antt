-- What `run_procedure` gives: the run over bytes as the run over trace words. Assumes nothing.
use mathlib.Core.Path.{◌≡◌, refl, sym, ap, ◌∙◌}
use mathlib.Core.List.{List, []}
use Prim.Native.Nat.{ℕ, ◌*◌, ◌/◌}
use native.Mathlib.Omega.{arith}
use lib.ListN.{length}
use Rattle.std.specs.Prelude.{Result, Ok, Err}
use Rattle.definitions.specs.Bytes.{bytes_of, lent}
use Rattle.definitions.specs.Running.{trace_words, on, halt, Given, gave, run_procedure, Ran as Run}
use Rattle.laws.specs.ImageIn.{image_in}
use Rattle.tables.specs.Looking.{Listed}
use Rattle.tracing.specs.declared.Stop.{Stop}
use Rattle.tracing.specs.declared.Trace.{Trace}
use Rattle.tracing.specs.Log.{Log, log, byte_trace}
use Rattle.tracing.specs.Renaming.{map_ran}
use Rattle.tracing.specs.Painting.{paint, run_painted}
use Rattle.simple_statements.specs.declared.State.{State}
use Rattle.runner.specs.Runs.{nine, returned, procedure_run}
use Rattle.runner.specs.Callees.{callee_at, framed_nine}
use Rattle.runner.specs.Executions.{told_of, executed}

-- no word is written yet
paint_none : (base : List ℕ) → paint base [] ≡ log 0 base
unfolding paint lent bytes_of
paint_none base = refl

told_same : (base : List ℕ) (x : Run (List ℕ) Given) (r : Result ℕ Stop) (st : State) → returned r st ≡ map_ran (paint base) x
    → told_of r st.steps (st.trace.now.used / 4) st.cells.now st.trace.now.bytes.now ≡ executed base x
unfolding map_ran paint executed told_of
told_same base (on (gave w ds) i t) (Ok v) st d =
    let e : 4 * length t ≡ st.trace.now.used = cc in let g : st.trace.now.used / 4 ≡ length t = omega arith in cc
told_same base (halt a b i t) (Ok v) st d = cc
told_same base (on (gave w ds) i t) (Err s) st d = cc
told_same base (halt a b i t) (Err s) st d =
    let e : 4 * length t ≡ st.trace.now.used = cc in let g : st.trace.now.used / 4 ≡ length t = omega arith in cc

run_told : (image table values : List ℕ) (f budget : ℕ) → Listed image table f → (cs slice : List ℕ) (r : Result ℕ Stop) (st : State)
    → returned r st ≡ procedure_run budget (image_in image) f 0 (log 0 slice) values cs
    → told_of r st.steps (st.trace.now.used / 4) st.cells.now st.trace.now.bytes.now
    ≡ executed slice (run_procedure (trace_words (length slice / 4)) budget (image_in image).arrays (image_in image).procedures (length (image_in image).procedures) f (nine values) 0 [] cs)
unfolding procedure_run
run_told image table values f budget k cs slice r st d =
    told_same slice _ r st
    (d ∙ (rw (framed_nine values))
    ∙ sym (callee_at byte_trace budget (image_in image).arrays (image_in image).procedures f (nine values) 0 (log 0 slice) cs (length (image_in image).procedures) k.number)
    ∙ ap (λ (t : Log). run_procedure byte_trace budget (image_in image).arrays (image_in image).procedures (length (image_in image).procedures) f (nine values) 0 t cs) (sym (paint_none slice))
    ∙ run_painted slice budget (image_in image).arrays (image_in image).procedures (length (image_in image).procedures) f (nine values) 0 [] cs)

-- the same of what the lent slices hold once the run has let them go
pub run_ended : (image table values : List ℕ) (f budget : ℕ) → Listed image table f → (cs slice : List ℕ) (r : Result ℕ Stop) (st : State)
    → returned r st ≡ procedure_run budget (image_in image) f 0 (log 0 slice) values cs
    → (cells bytes : List ℕ) (trace : Trace) → cells ≡ st.cells.now → trace ≡ st.trace.now → bytes ≡ trace.bytes.now
    → told_of r st.steps (trace.used / 4) cells bytes
    ≡ executed slice (run_procedure (trace_words (length slice / 4)) budget (image_in image).arrays (image_in image).procedures (length (image_in image).procedures) f (nine values) 0 [] cs)
run_ended image table values f budget k cs slice r st d cells bytes trace p q o = rw (o, q, p) (run_told image table values f budget k cs slice r st d)
