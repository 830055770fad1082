-- How a call ends: refused, stopped, or with a result. Assumes nothing.
use mathlib.Core.Path.{◌≡◌, refl, sym, ap, ◌∙◌}
use mathlib.Core.Logic.{◌⊎◌, inl, inr}
use mathlib.Core.Bool.{Bool, true, false}
use mathlib.Core.List.{List, [], ◌++◌}
use Prim.Native.Nat.{ℕ, zero, suc, ◌≤◌, ◌<◌}
use native.Mathlib.Omega.{arith}
use borrow.Author.Tests.{lt-ltb, le-ltb, eq-eqb, ne_eqb}
use lib.Dec.{eqb}
use lib.ListN.{length, take, drop, take-append-drop}
use lib.Seq.{take_at, length-take-le}
use Rattle.definitions.specs.Choice.{pick}
use Rattle.definitions.specs.Bytes.{bytes_of, lent}
use Rattle.definitions.specs.Image.{cell_count, Image, Procedure, procedure_at}
use Rattle.definitions.specs.Running.{Trace, trace_words, Ran, and_go, Given, run_block, frame, finish, run_procedure}
use Rattle.definitions.specs.Requests.{answered, argument_values, ended, called_on}
use Rattle.definitions.specs.declared.Answer.{Answer}
use Rattle.definitions.specs.declared.Answer.TheVariants.{Done, Stopped, Refused}
use Rattle.laws.specs.ImageIn.{image_in}
use Rattle.requests.specs.SpareRuns.{Both, both_on, both_halt, WideGiven, wide_gave, procedure_spare}
use Rattle.runner.specs.declared.procedures.Execution.{Execution}
use Rattle.reasons.specs.Numbers.{reason_number}
use Rattle.std.specs.Prelude.{Ok, Err}
use Rattle.tracing.specs.declared.Stop.{Stop}
use Rattle.runner.specs.Executions.{told, told_of, executed}
use Rattle.machine.specs.declared.machines.Machine.{Machine}
use Rattle.machine.specs.Turns.{held, Kept}
use Rattle.machine.specs.Serving.{Whole, ran_on, own_in, left, Outcome, TurnedCall, TurnedPreview}

-- ---- the two refusals

nothing_lent : (bytes : List ℕ) → bytes ≡ lent bytes []
unfolding lent bytes_of
nothing_lent bytes = refl

module _ (image cells : List ℕ) (f : ℕ) (ws : List ℕ) (budget room : ℕ) (before : List ℕ) where
  pub no_procedure_lem : length (image_in image).procedures ≤ f
      → Outcome image cells cells (Refused 17 0) before before (called_on (image_in image) (own_in image cells) f ws budget room)
  unfolding called_on
  no_procedure_lem h =
      rw (le-ltb f (length (image_in image).procedures) h) record { answer = refl; cells = refl; whole = refl; trace = nothing_lent before }

  pub wrong_count : f < length (image_in image).procedures → (length ws ≡ (procedure_at (image_in image).procedures f).parameters → ⊥)
      → Outcome image cells cells (Refused 18 0) before before (called_on (image_in image) (own_in image cells) f ws budget room)
  unfolding called_on
  wrong_count h g =
      rw (lt-ltb f (length (image_in image).procedures) h, ne_eqb (length ws) (procedure_at (image_in image).procedures f).parameters g)
      record { answer = refl; cells = refl; whole = refl; trace = nothing_lent before }

pub called_runs : (tree : Image) (cells : List ℕ) (f : ℕ) (ws : List ℕ) (budget room : ℕ) → f < length tree.procedures
    → length ws ≡ (procedure_at tree.procedures f).parameters
    → called_on tree cells f ws budget room ≡ ran_on tree cells f (argument_values (procedure_at tree.procedures f).types ws) budget room
unfolding called_on ran_on
called_runs tree cells f ws budget room h g =
    rw (lt-ltb f (length tree.procedures) h, eq-eqb (length ws) (procedure_at tree.procedures f).parameters g)

-- only the frame of the arguments counts
run_framed : {T : Type 0} (C : Trace T) (budget : ℕ) (arrays : List ℕ) (ps : List Procedure) (n f : ℕ) (us ws : List ℕ) (z : ℕ) (t : T) (cs : List ℕ)
    → frame us ≡ frame ws → run_procedure C budget arrays ps n f us z t cs ≡ run_procedure C budget arrays ps n f ws z t cs
unfolding run_procedure
run_framed C budget arrays ps zero f us ws z t cs e = refl
run_framed {T} C budget arrays ps (suc n) f us ws z t cs e =
    ap (λ (vs : List ℕ). pick {A = ℕ → T → Ran T Given} (eqb f n)
    (λ y u. and_go (run_block C budget arrays (λ g xs p q ds. run_procedure C budget arrays ps n g xs p q ds) (procedure_at ps n).body y u vs cs) finish)
    (λ y u. run_procedure C budget arrays ps n f us y u cs) z t) e
    ∙ go (eqb f n) (run_framed C budget arrays ps n f us ws z t cs e)
  where
    go : (b : Bool) → run_procedure C budget arrays ps n f us z t cs ≡ run_procedure C budget arrays ps n f ws z t cs
        → ◌≡◌ {A = Ran T Given}
        (pick {A = ℕ → T → Ran T Given} b
        (λ y u. and_go (run_block C budget arrays (λ g xs p q ds. run_procedure C budget arrays ps n g xs p q ds) (procedure_at ps n).body y u (frame ws) cs) finish)
        (λ y u. run_procedure C budget arrays ps n f us y u cs) z t)
        (pick {A = ℕ → T → Ran T Given} b
        (λ y u. and_go (run_block C budget arrays (λ g xs p q ds. run_procedure C budget arrays ps n g xs p q ds) (procedure_at ps n).body y u (frame ws) cs) finish)
        (λ y u. run_procedure C budget arrays ps n f ws y u cs) z t)
    go true r = refl
    go false r = r

pub ran_framed : (tree : Image) (cells : List ℕ) (f : ℕ) (us ws : List ℕ) (budget room : ℕ) → frame us ≡ frame ws
    → ran_on tree cells f us budget room ≡ ran_on tree cells f ws budget room
unfolding ran_on
ran_framed tree cells f us ws budget room h =
    ap (λ (x : Ran (List ℕ) Given). ended (procedure_at tree.procedures f) cells x)
    (run_framed (trace_words room) budget tree.arrays tree.procedures (length tree.procedures) f us ws 0 [] cells h)

-- ---- the run: the array has more words than the image has cells

module _ (image first : List ℕ) (p : Procedure) (rest : List ℕ) (C : Trace (List ℕ)) (budget : ℕ) (before after cells : List ℕ) (r : Execution) where
  spare_done : length (own_in image first) ≡ cell_count (image_in image).arrays
      → (x y : Ran (List ℕ) Given) → Both (WideGiven C budget (image_in image).arrays rest) x y → told r cells after ≡ executed before y
      → (v a : ℕ) → r.outcome ≡ Ok v → a ≡ answered p.result v
      → Outcome image first cells (Done a r.steps r.words) before after (ended p (own_in image first) x)
  unfolding ended told_of executed
  spare_done long x y (both_on g k i t (wide_gave w cs l)) d v a s q =
      let d2 = rw s at d in
      let same : cells ≡ cs ++ rest = cc in
      let value : v ≡ w = cc in
      let steps : r.steps ≡ i = cc in
      let words : r.words ≡ length t = cc in
      let front : own_in image cells ≡ cs = rw same (take_at cs rest (cell_count (image_in image).arrays) l) in
      record { answer = rw (q, value, steps, words); cells = front; whole = ap length front ∙ l ∙ sym long; trace = cc }
  spare_done long x y (both_halt n l i t) d v a s q = let d2 = rw s at d in absurd (let z : ◌≡◌ {A = ℕ} 0 1 = cc in omega arith)

  spare_stopped : (x y : Ran (List ℕ) Given) → Both (WideGiven C budget (image_in image).arrays rest) x y → told r cells after ≡ executed before y
      → (e : Stop) (n : ℕ) → r.outcome ≡ Err e → n ≡ reason_number e.reason
      → Outcome image first cells (Stopped n e.place r.steps r.words) before after (ended p (own_in image first) x)
  unfolding ended told_of executed
  spare_stopped x y (both_on g k i t (wide_gave w cs b)) d e n s h = let d2 = rw s at d in absurd (let z : ◌≡◌ {A = ℕ} 0 1 = cc in omega arith)
  spare_stopped x y (both_halt j q i t) d e n s h = let d2 = rw s at d in record { answer = cc; cells = refl; whole = refl; trace = cc }

-- what an image of words runs over given cells
abbrev run_in : List ℕ → ℕ → List ℕ → ℕ → ℕ → List ℕ → Ran (List ℕ) Given
run_in image f values budget room cs =
    run_procedure (trace_words room) budget (image_in image).arrays (image_in image).procedures (length (image_in image).procedures) f values 0 [] cs

module _ (image first : List ℕ) (f : ℕ) (values : List ℕ) (budget room : ℕ) (long : length first ≡ 1024)
    (few : cell_count (image_in image).arrays ≤ 1024) (before after cells : List ℕ) (r : Execution)
    (d : told r cells after ≡ executed before (run_in image f values budget room first)) where
  abbrev own : List ℕ
  own = own_in image first

  abbrev spare : List ℕ
  spare = drop (cell_count (image_in image).arrays) first

  with_spare : told r cells after ≡ executed before (run_in image f values budget room (own ++ spare))
  with_spare =
      d ∙ ap (λ (cs : List ℕ). executed before (run_in image f values budget room cs)) (sym (take-append-drop (cell_count (image_in image).arrays) first))

  all_own : length own ≡ cell_count (image_in image).arrays
  all_own = length-take-le (cell_count (image_in image).arrays) first (omega arith)

  both : Both (WideGiven (trace_words room) budget (image_in image).arrays spare) (run_in image f values budget room own)
      (run_in image f values budget room (own ++ spare))
  both =
      procedure_spare (trace_words room) budget (image_in image).arrays spare (image_in image).procedures (length (image_in image).procedures) f values 0 []
      own all_own

  pub run_done : (v a type : ℕ) → r.outcome ≡ Ok v → type ≡ (procedure_at (image_in image).procedures f).result → a ≡ answered type v
      → Outcome image first cells (Done a r.steps r.words) before after (ran_on (image_in image) own f values budget room)
  unfolding ran_on
  run_done v a type s t q =
      spare_done image first (procedure_at (image_in image).procedures f) spare (trace_words room) budget before after cells r all_own
      (run_in image f values budget room own) (run_in image f values budget room (own ++ spare)) both with_spare v a s
      (q ∙ ap (λ (n : ℕ). answered n v) t)

  pub run_stopped : (e : Stop) (n : ℕ) → r.outcome ≡ Err e → n ≡ reason_number e.reason
      → Outcome image first cells (Stopped n e.place r.steps r.words) before after (ran_on (image_in image) own f values budget room)
  unfolding ran_on
  run_stopped e n s h =
      spare_stopped image first (procedure_at (image_in image).procedures f) spare (trace_words room) budget before after cells r
      (run_in image f values budget room own) (run_in image f values budget room (own ++ spare)) both with_spare e n s h

-- ---- the machine after a call, and after a preview

-- The run worked in an array that has the machine's cells at its front.
module _ {N : ℕ} (m : Machine N) (image first : List ℕ) (all : Whole image m.count) (front : take m.count first ≡ held m) (f : ℕ) (ws : List ℕ)
    (budget room : ℕ) (before after last : List ℕ) (r : Answer)
    (o : Outcome image first last r before after (called_on (image_in image) (own_in image first) f ws budget room)) where
  own_held : own_in image first ≡ held m
  own_held = ap (λ (n : ℕ). take n first) (sym all) ∙ front

  -- a call that is done hands back a machine that has the cells which the run left
  pub turn_done : (g : Machine N) → held g ≡ take m.count last → g.count ≡ m.count → (v z n : ℕ) → r ≡ Done v z n
      → TurnedCall m (record { machine = g; answer = r }) before after (called_on (image_in image) (held m) f ws budget room)
  unfolding Kept
  turn_done g h c v z n e =
      let left_cells : own_in image last ≡ (called_on (image_in image) (own_in image first) f ws budget room).1 = rw e at o.cells in
      record {
        answer = rw (← own_held) o.answer;
        cells = h ∙ ap (λ (k : ℕ). take k last) all ∙ left_cells ∙ ap (λ (own : List ℕ). (called_on (image_in image) own f ws budget room).1) own_held;
        trace = rw (← own_held) o.trace;
        kept = rw e c;
      }

  -- any other hands back the machine that came in
  turn_kept : left r first last ≡ first → Kept r m m
      → TurnedCall m (record { machine = m; answer = r }) before after (called_on (image_in image) (held m) f ws budget room)
  turn_kept e k =
      let cells : own_in image first ≡ (called_on (image_in image) (own_in image first) f ws budget room).1 = rw e at o.cells in
      record {
        answer = rw (← own_held) o.answer;
        cells = sym own_held ∙ cells ∙ ap (λ (own : List ℕ). (called_on (image_in image) own f ws budget room).1) own_held;
        trace = rw (← own_held) o.trace;
        kept = k;
      }

  pub turn_other : ((k : ℕ) × (p : ℕ) × (z : ℕ) × (n : ℕ) × r ≡ Stopped k p z n) ⊎ ((k : ℕ) × (p : ℕ) × r ≡ Refused k p)
      → TurnedCall m (record { machine = m; answer = r }) before after (called_on (image_in image) (held m) f ws budget room)
  unfolding Kept
  turn_other (inl (k, p, z, n, e)) = turn_kept (rw e refl) (rw e refl)
  turn_other (inr (k, p, e)) = turn_kept (rw e refl) (rw e refl)

  pub turn_previewed : TurnedPreview m (record { machine = m; answer = r }) before after (called_on (image_in image) (held m) f ws budget room)
  turn_previewed = record { answer = rw (← own_held) o.answer; trace = rw (← own_held) o.trace; machine = refl }
