-- A compiled image ends as its source ends: each procedure gives the same result and leaves the same cells, or both stop with the same number,
-- unless one of the two runs is short of steps or of trace words. Assumes nothing.
use Rattle.std.specs.Prelude.{◌≡◌, ◌≢◌, Bool, leb, length, get_or}
use Rattle.std.proofs.Math.Path.{refl, ap}
use Rattle.std.proofs.Common.{sym, ◌∙◌, true≢false, arith}
use Rattle.std.proofs.Math.Bool.{true, false}
use mathlib.Core.List.{List, [], ◌∷◌, ◌++◌, append-nil, flat_map}
use Prim.Native.Nat.{ℕ, zero, suc, ◌+◌, ◌-◌, ◌<◌, ◌≤◌}
use Rattle.std.proofs.Math.Dec.{eqb}
use Rattle.std.proofs.Math.Seq.{get_or-append_seam}
use borrow.Author.Tests.{eqb-true}
use Rattle.definitions.specs.Choice.{pick}
use Rattle.definitions.specs.Image.{Procedure, Image, guarded, procedure_at}
use Rattle.definitions.specs.Sorts.{procedure_sort_faults, procedures_sort_faults, image_sort_faults}
use Rattle.definitions.specs.Labels.{procedure_label_faults, procedures_label_faults, image_label_faults}
use Rattle.definitions.specs.Checking.{fault_of}
use Rattle.definitions.specs.Compiling.{guards, compiled_types, compiled_procedure, compiled_procedures, compiled_image}
use Rattle.definitions.specs.Compiling.{fit_locals}
use Rattle.definitions.specs.Running.{Trace, Ran, and_go, Given, Callee, frame, finish, run_block, run_procedure}
use Rattle.statements.specs.Statements.{with_guard}
use Rattle.laws.specs.Tests.{empties, conjuncts}
use Rattle.laws.specs.Faultless.{faultless}
use Rattle.preservation.specs.WellRead.{well_read_procedure, well_read_procedures, well_read}
use Rattle.preservation.specs.Relations.{Safe, fine, Sim, meet}
use Rattle.preservation.specs.Inactive.{Unmoved, unmoved, InactiveCallee}
use Rattle.preservation.specs.Simulation.{SameGiven, same_given, SimCallee}
use Rattle.preservation.specs.Bodies.{Accepted}
use Rattle.preservation.specs.Procedures.{sim_body, inactive_body}

-- what holds of a list of procedures, at each of its places
module _ (I : Image) where
  pub procedure_well : (qs : List Procedure) (n : ℕ) → n < length qs → well_read_procedures I.procedures qs ≡ true → well_read_procedure I.procedures (procedure_at qs n) ≡ true
  unfolding well_read_procedures
  procedure_well [] n i h = absurd (omega arith)
  procedure_well (q ∷ qs) zero i h = search conjuncts
  procedure_well (q ∷ qs) (suc n) i h = procedure_well qs n (omega arith) (search conjuncts)

  pub procedure_sorts : (qs : List Procedure) (n : ℕ) → n < length qs → procedures_sort_faults I.procedures (length I.arrays) qs ≡ [] → procedure_sort_faults I.procedures (length I.arrays) (procedure_at qs n) ≡ []
  unfolding procedures_sort_faults flat_map
  procedure_sorts [] n i h = absurd (omega arith)
  procedure_sorts (q ∷ qs) zero i h = search empties
  procedure_sorts (q ∷ qs) (suc n) i h = procedure_sorts qs n (omega arith) (search empties)

  pub procedure_labels : (qs : List Procedure) (n : ℕ) → n < length qs → procedures_label_faults I qs ≡ [] → procedure_label_faults I (procedure_at qs n) ≡ []
  unfolding procedures_label_faults flat_map
  procedure_labels [] n i h = absurd (omega arith)
  procedure_labels (q ∷ qs) zero i h = search empties
  procedure_labels (q ∷ qs) (suc n) i h = procedure_labels qs n (omega arith) (search empties)

  pub procedure_fits : (qs : List Procedure) (n : ℕ) → n < length qs → fit_locals (compiled_procedures I.procedures I.arrays qs) ≡ true
      → leb (length (compiled_types I.procedures I.arrays (procedure_at qs n)) - ((procedure_at qs n).parameters + guards (procedure_at qs n))) 246 ≡ true
  unfolding fit_locals compiled_procedures compiled_procedure
  procedure_fits [] n i h = absurd (omega arith)
  procedure_fits (q ∷ qs) zero i h = search conjuncts
  procedure_fits (q ∷ qs) (suc n) i h = procedure_fits qs n (omega arith) (search conjuncts)

  pub compiled_at : (qs : List Procedure) (n : ℕ) → n < length qs → procedure_at (compiled_procedures I.procedures I.arrays qs) n ≡ compiled_procedure I.procedures I.arrays (procedure_at qs n)
  unfolding compiled_procedures
  compiled_at [] n i = absurd (omega arith)
  compiled_at (q ∷ qs) zero i = refl
  compiled_at (q ∷ qs) (suc n) i = compiled_at qs n (omega arith)

  pub compiled_count : (qs : List Procedure) → length (compiled_procedures I.procedures I.arrays qs) ≡ length qs
  unfolding compiled_procedures
  compiled_count [] = refl
  compiled_count (q ∷ qs) = ap suc (compiled_count qs)

-- an image that reading gave and no rule refuses, whose compiled form has at most 246 locals in each procedure (as it always has: laws/CompiledLocals;
-- asked here, since the limits that reading keeps are not)
pub record SoundSource (I : Image) : Type 0 where
  pub well : well_read I ≡ true
  pub clean : (fault_of I).number ≡ 0
  pub fits : fit_locals (compiled_image I).procedures ≡ true

pub accepted_at : (I : Image) → SoundSource I → (n : ℕ) → n < length I.procedures → Accepted I (procedure_at I.procedures n)
unfolding well_read image_sort_faults image_label_faults compiled_image
accepted_at I c n i =
    let f = faultless I c.clean in
    record {
      well = procedure_well I I.procedures n i c.well;
      sorts = procedure_sorts I I.procedures n i f.0;
      labels = procedure_labels I I.procedures n i f.1;
      fits = procedure_fits I I.procedures n i c.fits;
    }

module _ (I : Image) (c : SoundSource I) {T U : Type 0} (C : Trace T) (D : Trace U) (budget budget' : ℕ) where
  -- the first n procedures of the source, and those of its compiled form
  abbrev sources : ℕ → Callee T
  sources n = λ f ws z t cs. run_procedure C budget I.arrays I.procedures n f ws z t cs

  abbrev targets : ℕ → Callee U
  targets n = λ f ws z t cs. run_procedure D budget' I.arrays (compiled_procedures I.procedures I.arrays I.procedures) n f ws z t cs

  inactive_targets : (n : ℕ) → n ≤ length I.procedures → InactiveCallee I.procedures (targets n)
  unfolding run_procedure compiled_procedure
  inactive_targets zero i f ws g e z t cs = fine unmoved
  inactive_targets (suc n) i f ws g e z t cs = go (inactive_targets n (omega arith)) (eqb f n) refl
    where
      go : InactiveCallee I.procedures (targets n) → (b : Bool) → eqb f n ≡ b
          → Safe (Unmoved cs) (pick {A = ℕ → U → Ran U Given} b
          (λ y u. and_go (run_block D budget' I.arrays (λ g xs p q ds. targets n g xs p q ds) (procedure_at (compiled_procedures I.procedures I.arrays I.procedures) n).body y u (frame (ws ++ (0 ∷ []))) cs) finish)
          (λ y u. targets n f (ws ++ (0 ∷ [])) y u cs) z t)
      go ih true q =
          let p = eqb-true f n q in
          rw (compiled_at I I.procedures n i) (inactive_body (accepted_at I c n i) D budget' (targets n) ih (rw p at g) ws (rw p at e) z t cs)
      go ih false q = ih f ws g e z t cs

  -- one more procedure
  sim_more_procedures : (n : ℕ) → n < length I.procedures → SimCallee I.procedures T U (sources n) (targets n) → (f : ℕ) (ws xs : List ℕ)
      → length ws ≡ (procedure_at I.procedures f).parameters → length xs ≡ guards (procedure_at I.procedures f)
      → (guarded (procedure_at I.procedures f) ≡ true → get_or (ws ++ xs) (procedure_at I.procedures f).parameters 0 ≢ 0)
      → (z : ℕ) (t : T) (y : ℕ) (u : U) (cs : List ℕ) → Sim SameGiven (sources n f ws z t cs) (targets n f (ws ++ xs) y u cs)
      → Sim SameGiven (sources (suc n) f ws z t cs) (targets (suc n) f (ws ++ xs) y u cs)
  unfolding run_procedure compiled_procedure
  sim_more_procedures n i ks f ws xs e x g z t y u cs h = go (eqb f n) refl
    where
      go : (b : Bool) → eqb f n ≡ b
          → Sim SameGiven
          (pick {A = ℕ → T → Ran T Given} b
          (λ y u. and_go (run_block C budget I.arrays (λ g xs p q ds. sources n g xs p q ds) (procedure_at I.procedures n).body y u (frame ws) cs) finish)
          (λ y u. sources n f ws y u cs) z t)
          (pick {A = ℕ → U → Ran U Given} b
          (λ y u. and_go (run_block D budget' I.arrays (λ g xs p q ds. targets n g xs p q ds) (procedure_at (compiled_procedures I.procedures I.arrays I.procedures) n).body y u (frame (ws ++ xs)) cs) finish)
          (λ y u. targets n f (ws ++ xs) y u cs) y u)
      go true q =
          let p = eqb-true f n q in
          rw (compiled_at I I.procedures n i)
          (sim_body (accepted_at I c n i) C D budget budget' (sources n) (targets n) ks (inactive_targets n (omega arith)) ws xs (rw p at e) (rw p at x) (rw p at g) z t y u cs)
      go false q = h

  sim_targets : (n : ℕ) → n ≤ length I.procedures → SimCallee I.procedures T U (sources n) (targets n)
  unfolding run_procedure
  sim_targets zero i = record { plain = λ f ws g e z t y u cs. meet same_given; guard = λ f ws v g o e z t y u cs. meet same_given }
  sim_targets (suc n) i = next_targets (sim_targets n (omega arith))
    where
      next_targets : SimCallee I.procedures T U (sources n) (targets n) → SimCallee I.procedures T U (sources (suc n)) (targets (suc n))
      next_targets ks =
          record {
            plain = λ f ws g e z t y u cs.
                let h : Sim SameGiven (sources n f ws z t cs) (targets n f (ws ++ []) y u cs) = rw (append-nil ws) (ks.plain f ws g e z t y u cs) in
                rw (append-nil ws) at (sim_more_procedures n i ks f ws [] e (rw g refl) (λ p. absurd (true≢false (sym p ∙ g))) z t y u cs h);
            guard = λ f ws v g o e z t y u cs.
                sim_more_procedures n i ks f ws (v ∷ []) e (rw g refl) (λ _. rw (← e, get_or-append_seam ws v [] 0) o) z t y u cs (ks.guard f ws v g o e z t y u cs);
          }

-- A compiled procedure ends as its source ends, over any two kinds of trace, any two budgets, and from any steps and traces on.
pub preserved : (I : Image) → SoundSource I → {T U : Type 0} (C : Trace T) (D : Trace U) (budget budget' : ℕ) (f : ℕ) (ws : List ℕ)
    → length ws ≡ (procedure_at I.procedures f).parameters → (z : ℕ) (t : T) (y : ℕ) (u : U) (cs : List ℕ)
    → Sim SameGiven
    (run_procedure C budget I.arrays I.procedures (length I.procedures) f ws z t cs)
    (run_procedure D budget' (compiled_image I).arrays (compiled_image I).procedures (length (compiled_image I).procedures) f (with_guard (procedure_at I.procedures f) ws) y u cs)
unfolding compiled_image
preserved I c C D budget budget' f ws e z t y u cs = rw (compiled_count I I.procedures) (go (guarded (procedure_at I.procedures f)) refl)
  where
    go : (g : Bool) → guarded (procedure_at I.procedures f) ≡ g
        → Sim SameGiven (sources I c C D budget budget' (length I.procedures) f ws z t cs) (targets I c C D budget budget' (length I.procedures) f (ws ++ pick g (1 ∷ []) []) y u cs)
    go true g = (sim_targets I c C D budget budget' (length I.procedures) (omega arith)).guard f ws 1 g (λ q. absurd (omega arith)) e z t y u cs
    go false g = rw (append-nil ws) ((sim_targets I c C D budget budget' (length I.procedures) (omega arith)).plain f ws g e z t y u cs)
