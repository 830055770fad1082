-- Document 01, "What demand 3 compares", for a run of a procedure of an image of form 1 that the checker admits, with all that it calls.
-- Assumes nothing.
use Rattle.std.specs.Prelude.{◌≡◌, Bool, length, replicate}
use Rattle.std.proofs.Math.Path.{refl}
use Rattle.std.proofs.Math.Bool.{true, false}
use mathlib.Core.List.{List, [], flat_map, ◌∷◌}
use Prim.Native.Nat.{ℕ, zero, suc, ◌+◌, ◌-◌}
use Rattle.std.proofs.Math.Dec.{eqb}
use Rattle.std.proofs.Common.{eqb-true, eq-eqb}
use Rattle.definitions.specs.Choice.{pick}
use Rattle.definitions.specs.Image.{Procedure, Image, procedure_at, guarded}
use Rattle.definitions.specs.Labels.{unbounded, procedure_label_faults, image_label_faults, procedures_label_faults}
use Rattle.definitions.specs.Labels.{block_label_faults}
use Rattle.definitions.specs.Checking.{fault_of}
use Rattle.definitions.specs.Running.{Trace, Ran, Outcome, Given, Callee, and_go, run_block, frame, finish, run_procedure}
use Rattle.laws.specs.Faultless.{faultless}
use Rattle.laws.specs.Tests.{nil_left, nil_right}
use Rattle.secrecy.specs.Agreement.{Agree, agree_append, cell_secret}
use Rattle.secrecy.specs.Related.{Runs, ons, on_and_go}
use Rattle.secrecy.specs.Expressions.{variable_secret}
use Rattle.secrecy.specs.Statements.{Outcomes, nexts, backs, Results, gives, KeepsCalls, same_block}

-- the number of variables of a frame with k arguments
abbrev frame_size : ℕ → ℕ
frame_size k = k + length (replicate {A = ℕ} (255 - k) 0)

-- locals start as 0
same_frame : {k : ℕ} {s : ℕ → Bool} {ws xs : List ℕ} → Agree k s ws xs → Agree (frame_size k) s (frame ws) (frame xs)
unfolding frame
same_frame {k} a = rw (a.left, a.right) (agree_append (replicate (255 - k) 0) a)

same_finish : {T : Type 0} {n m : ℕ} {arrays types : List ℕ} {result : ℕ} {o q : Outcome} → Outcomes n m arrays types result o q
    → (z : ℕ) (t : T) → Runs (Results m arrays result) (finish o z t) (finish q z t)
unfolding finish
same_finish (nexts a c) z t = ons (gives (λ _. refl) c)
same_finish (backs e c) z t = ons (gives e c)

-- no fault of a procedure among those of all, nor of a number that names none
procedure_none : (image : Image) (ps : List Procedure) (f : ℕ) → procedures_label_faults image ps ≡ [] → procedure_label_faults image (procedure_at ps f) ≡ []
unfolding procedures_label_faults flat_map procedure_label_faults block_label_faults
procedure_none image [] f h = refl
procedure_none image (p ∷ ps) zero h = nil_left (procedure_label_faults image p) (procedures_label_faults image ps) h
procedure_none image (p ∷ ps) (suc f) h = procedure_none image ps f (nil_right (procedure_label_faults image p) (procedures_label_faults image ps) h)

module _ {T : Type 0} (C : Trace T) (budget m : ℕ) (image : Image) where
  -- what a run of the procedure numbered n does, where K runs those that it calls
  abbrev invoked : Callee T → ℕ → List ℕ → ℕ → T → List ℕ → Ran T Given
  invoked K n ws z t cs = and_go (run_block C budget image.arrays K (procedure_at image.procedures n).body z t (frame ws) cs) finish

  -- the procedures below n
  abbrev lower : ℕ → Callee T
  lower n = λ f ws z t cs. run_procedure C budget image.arrays image.procedures n f ws z t cs

  -- one procedure, where those that it calls keep what agrees
  same_invoked : image.form ≡ 1 → (image_label_faults image ≡ []) → (K : Callee T) → KeepsCalls m image.arrays image.procedures K
      → (n k : ℕ) (ws xs : List ℕ) (z : ℕ) (t : T) (cs ds : List ℕ)
      → Agree k (variable_secret (procedure_at image.procedures n).types) ws xs → Agree m (cell_secret image.arrays) cs ds
      → Runs (Results m image.arrays (procedure_at image.procedures n).result) (invoked K n ws z t cs) (invoked K n xs z t ds)
  unfolding procedure_label_faults image_label_faults
  same_invoked one h K hk n k ws xs z t cs ds a c =
      let me : Procedure = procedure_at image.procedures n in
      on_and_go
      (same_block C budget image.form image.procedures image.arrays K (frame_size k) m me.types me.result
      (eq-eqb image.form 1 one) hk me.body (replicate 256 unbounded) (guarded me) false
      (procedure_none image image.procedures n h) z t (frame ws) (frame xs) cs ds (same_frame a) c)
      λ o q w v r. same_finish r w v

  same_procedures : image.form ≡ 1 → (image_label_faults image ≡ []) → (n : ℕ) → KeepsCalls m image.arrays image.procedures (lower n)
  unfolding run_procedure
  same_procedures one h zero f k ws xs z t cs ds a c = ons (gives (λ _. refl) c)
  same_procedures one h (suc n) f k ws xs z t cs ds a c =
      by_test (λ f k ws xs z t cs ds a c. same_procedures one h n f k ws xs z t cs ds a c) (eqb f n) refl
    where
      by_test : KeepsCalls m image.arrays image.procedures (lower n) → (b : Bool) → eqb f n ≡ b
          → Runs (Results m image.arrays (procedure_at image.procedures f).result)
          (pick {A = ℕ → T → Ran T Given} b (λ y u. invoked (lower n) n ws y u cs) (λ y u. lower n f ws y u cs) z t)
          (pick {A = ℕ → T → Ran T Given} b (λ y u. invoked (lower n) n xs y u ds) (λ y u. lower n f xs y u ds) z t)
      by_test hk true e = rw (eqb-true f n e) (same_invoked one h (lower n) hk n k ws xs z t cs ds (rw (eqb-true f n e) at a) c)
      by_test hk false e = hk f k ws xs z t cs ds a c

-- The run of a call: over an image of form 1 with no fault, from arguments and cells that agree where they are public, the steps, the trace, the
-- stop with its number and place are the same, a public result is the same, and the cells agree where they are public.
pub same_run : {T : Type 0} (C : Trace T) (budget m : ℕ) (image : Image) → image.form ≡ 1 → (fault_of image).number ≡ 0
    → (n : ℕ) → KeepsCalls m image.arrays image.procedures (run_procedure C budget image.arrays image.procedures n)
same_run C budget m image one h n = same_procedures C budget m image one (faultless image h).1 n
