-- A run by given operators (FormerTraces, of the statements) is the definitions' run, where these do what the definitions' operators do. Assumes nothing.
use Rattle.std.specs.Prelude.{◌≡◌, refl, List, [], ℕ}
use Rattle.std.proofs.Common.{sym, ◌∙◌, true≢false, arith}
use Rattle.definitions.specs.Image.{Procedure}
use Rattle.definitions.specs.Running.{Trace, Evaluated, value, stop, Ran, emit, operated, run_procedure}
use Rattle.statements.specs.FormerTraces.{Operation, run_procedure_by}
use Rattle.laws.specs.Trees.{Anywhere, anywhere_procedures}
use Rattle.results.specs.WordsNamed.{WordName, ProceduresNames, AnyName, procedures_any}
use Rattle.results.specs.SideBySide.{Comparison, SameValue, both_value, both_stop, BothEvaluate, SameRun, both_on}
use Rattle.results.specs.SideBySide.{both_halt, first_halt, Keeps, Operates, operated_both, procedure_runs}

-- both have one trace, and neither halts alone
abbrev pub one_trace : (T : Type 0) → Comparison T T
one_trace T =
    record {
      Both = λ z t u. t ≡ u;
      Later = λ t u. Unit {0};
      Alone = λ k l z t y u. ⊥;
      none_later = λ u. tt;
      and_later = λ h g. tt;
      still_alone = λ h g m. h;
    }

module _ {T : Type 0} (C : Trace T) (budget : ℕ) where
  itself : {A : Type 0} (z : ℕ) (x : Evaluated T A) → SameValue (one_trace T) z x x
  itself z (value a t) = both_value refl
  itself z (stop k l t) = both_stop refl

  emits : (kind l v z : ℕ) (t u : T) → BothEvaluate (one_trace T) z t u (emit C kind l v t) (emit C kind l v u)
  emits kind l v z t u = record { same = λ h. rw h (itself z (emit C kind l v u)); later = tt }

  pub keeps_one : Keeps (one_trace T) C C budget budget Anywhere
  keeps_one =
      record {
        no_less = omega arith;
        stepped = λ z t u e h. h;
        spent = λ l z t u e e' h. absurd (true≢false (sym e' ∙ e));
        emits = λ kind l v z t u _ _. emits kind l v z t u;
      }

  same_runs : {A : Type 0} {x y : Ran T A} → SameRun (one_trace T) x y → y ≡ x
  same_runs (both_on {a} {z} h) = rw h
  same_runs (both_halt {k} {l} {z} h) = rw h
  same_runs (first_halt h) = absurd h

  pub same_procedure : (N : ℕ → WordName → Type 0) (operate : Operation T) → Operates (one_trace T) C operate Anywhere N
      → (arrays : List ℕ) (ps : List Procedure) → ProceduresNames N ps → (n f : ℕ) (ws : List ℕ) (z : ℕ) (t : T) (cs : List ℕ)
      → run_procedure_by operate C budget arrays ps n f ws z t cs ≡ run_procedure C budget arrays ps n f ws z t cs
  same_procedure N operate operates arrays ps m n f ws z t cs =
      same_runs ((procedure_runs (one_trace T) keeps_one arrays N operate operates (anywhere_procedures ps) m n f ws z t t cs).same refl)

  -- today's operators do so
  pub by_today : Operates (one_trace T) C (operated C) Anywhere AnyName
  by_today = operated_both (one_trace T) keeps_one [] (λ kind l v y s u _. emits kind l v y s u) AnyName

  pub by_procedure : (arrays : List ℕ) (ps : List Procedure) (n f : ℕ) (ws : List ℕ) (z : ℕ) (t : T) (cs : List ℕ)
      → run_procedure_by (operated C) C budget arrays ps n f ws z t cs ≡ run_procedure C budget arrays ps n f ws z t cs
  by_procedure arrays ps n f ws z t cs =
      same_procedure AnyName (operated C) by_today arrays ps (procedures_any ps) n f ws z t cs
