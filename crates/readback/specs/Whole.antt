-- A source image that was read and has no fault: its compiled image fits, and is good in each procedure. Assumes nothing.
use Rattle.std.specs.Prelude.{ℕ, suc, ◌+◌, ◌-◌, ◌≤◌, ◌<◌, Bool, ◌≡◌, refl, length, replicate}
use Rattle.std.proofs.Math.Bool.{true, false}
use mathlib.Core.List.{List, [], ◌∷◌, flat_map}
use Rattle.std.proofs.Math.Path.{ap}
use Rattle.std.proofs.Common.{sym, ◌∙◌, arith, zero-add, add-zero, leb-true}
use Rattle.std.proofs.Math.Dec.{leb}
use Rattle.definitions.specs.Image.{largest_level, Block, Procedure, Image, guarded, procedure_at}
use Rattle.definitions.specs.Sorts.{ordinary, mark_block, procedure_sort_faults, procedures_sort_faults, image_sort_faults}
use Rattle.definitions.specs.Labels.{unbounded, block_label_faults, procedure_label_faults, procedures_label_faults}
use Rattle.definitions.specs.Labels.{image_label_faults}
use Rattle.definitions.specs.Compiling.{compiled_block, defers, guards, return_variable, first_pair, first_moved, closed}
use Rattle.definitions.specs.Compiling.{compiled_types, temporary_of, compiled_body, compiled_procedure, compiled_procedures}
use Rattle.definitions.specs.Compiling.{compiled_image, fit_locals}
use Rattle.laws.specs.CompiledLocals.{at_most_one}
use Rattle.laws.specs.Tests.{and_left, and_right, nil_left, nil_right}
use Rattle.statements.specs.Limits.{FitsBlock, FitsProcedure, FitsProcedures, no_procedures, more_procedures, arity_of}
use Rattle.statements.specs.Limits.{FitsImage}
use Rattle.laws.specs.ReadImages.{procedure_fits}
use Rattle.readback.specs.Good.{GoodBlock}
use Rattle.readback.specs.Marks.{mark_closed, mark_block_lem, marked_start}
use Rattle.readback.specs.Levels.{DeepBlock, deep_block, deep_compiled, deep_closed, good_deep_block}
use Rattle.readback.specs.Layout.{compiled_room, compiled_below, compiled_typed, compiled_local, guard_room}
use Rattle.readback.specs.Layout.{guard_fresh, guard_type, deferred_added, pairs_added, temporary_added}
use Rattle.readback.specs.Layout.{compiled_callee, compiled_at, compiled_count, all_compiled}
use Rattle.readback.specs.Setting.{Callee, Setting}
use Rattle.readback.specs.Survive.{block_survives, body_closed}

-- a procedure of an image in form 1 whose body is good
abbrev pub GoodProcedure : List Procedure → List ℕ → ℕ → Procedure → Type 0
GoodProcedure ps arrays me p = GoodBlock ps me p.parameters p.types p.result arrays (mark_block p.body (replicate 256 ordinary)) p.body

pub data GoodProcedures (ps : List Procedure) (arrays : List ℕ) : ℕ → List Procedure → Type 0 where
  good_empty : {me : ℕ} → GoodProcedures ps arrays me []
  good_next :
      {me : ℕ} {p : Procedure} {rest : List Procedure} → p.mode ≡ 0 → GoodProcedure ps arrays me p → GoodProcedures ps arrays (me + 1) rest
      → GoodProcedures ps arrays me (p ∷ rest)

few_variables : {arity : ℕ → ℕ} {me : ℕ} {p : Procedure} → FitsProcedure 0 arity me p → length p.types < 256
few_variables f = let a = f.few_parameters in let b = f.parameters_typed in let c = f.few_locals in omega arith

module _ (form : ℕ) (ps ps' : List Procedure) (arrays : List ℕ) (me : ℕ) (p : Procedure) (fit : FitsProcedure 0 (arity_of ps) me p)
    (callee : (f : ℕ) → f < me → Callee (procedure_at ps f) (procedure_at ps' f)) where
  named : p.parameters ≤ length p.types
  named = fit.parameters_typed

  abbrev inner : Block
  inner =
      compiled_block ps arrays p.types (first_moved p) (return_variable p) (temporary_of ps arrays p) p.body (guarded p) p.parameters false
      (first_pair arrays p)

  abbrev start : List ℕ
  start = replicate 256 ordinary

  abbrev setting : Setting
  setting =
      record {
        form = form;
        ps = ps;
        ps' = ps';
        arrays = arrays;
        types = p.types;
        types' = compiled_types ps arrays p;
        me = me;
        parameters = p.parameters;
        parameters' = p.parameters + guards p;
        result = p.result;
        first = first_moved p;
        rv = return_variable p;
        temporary = temporary_of ps arrays p;
        typed = compiled_typed ps arrays p named;
        below = compiled_below ps arrays p named;
        room = compiled_room ps arrays p named;
        few = few_variables fit;
        local = compiled_local ps arrays p named;
        callee = callee;
      }

  pub procedure_good :
      procedure_sort_faults ps (length arrays) p ≡ [] → block_label_faults form ps arrays p.types p.result (replicate 256 unbounded) (guarded p) false p.body ≡ []
      → GoodProcedure ps' arrays me (compiled_procedure ps arrays p)
  unfolding compiled_procedure compiled_body procedure_sort_faults
  procedure_good sorts labels =
      let marks = mark_block p.body start in
      let marks' = mark_block inner start in
      let deferred = deferred_added ps arrays p named in
      let marked = mark_block_lem ps arrays p.types p.parameters p.result (first_moved p) (return_variable p) (temporary_of ps arrays p)
      (length arrays) (few_variables fit) p.body marks start start sorts (guarded p) p.parameters false (first_pair arrays p)
      (marked_start (first_moved p) (length p.types)) in
      rw (mark_closed (defers arrays p) (return_variable p) inner start)
      (body_closed setting (defers arrays p) marks marks' marked inner deferred
      (block_survives setting fit.body_fits (guarded p) p.parameters false (first_pair arrays p) marks marks' (replicate 256 unbounded) marked
      (λ g. (guard_room ps arrays p named g, guard_fresh ps arrays p named g, guard_type ps arrays p named g)) deferred (pairs_added ps arrays p named)
      (temporary_added ps arrays p named) sorts labels))

open_mode : (ps : List Procedure) (arrays : List ℕ) (p : Procedure) → ◌≡◌ {A = ℕ} (compiled_procedure ps arrays p).mode 0
unfolding compiled_procedure
open_mode ps arrays p = refl

-- every procedure
module _ (image : Image) (ps' : List Procedure) where
  pub procedures_good :
      {me : ℕ} {rest : List Procedure} → FitsProcedures 0 (arity_of image.procedures) me rest
      → ((f : ℕ) → f < me + length rest → Callee (procedure_at image.procedures f) (procedure_at ps' f))
      → procedures_sort_faults image.procedures (length image.arrays) rest ≡ [] → procedures_label_faults image rest ≡ []
      → GoodProcedures ps' image.arrays me (compiled_procedures image.procedures image.arrays rest)
  unfolding procedures_sort_faults procedures_label_faults flat_map procedure_label_faults compiled_procedures
  procedures_good no_procedures callee s l = good_empty
  procedures_good (more_procedures {me} {p} {ps} e fit fits) callee s l =
      let fs = procedure_sort_faults image.procedures (length image.arrays) p in
      let gs = procedures_sort_faults image.procedures (length image.arrays) ps in
      let ls = procedure_label_faults image p in
      let ks = procedures_label_faults image ps in
      good_next (open_mode image.procedures image.arrays p)
      (procedure_good image.form image.procedures ps' image.arrays me p fit (λ f h. callee f (omega arith)) (nil_left fs gs s) (nil_left ls ks l))
      (procedures_good fits (λ f h. callee f (omega arith)) (nil_right fs gs s) (nil_right ls ks l))

-- A compiled procedure fits form 1.
close_block : (d : Bool) (rv : ℕ) {l : ℕ} {b : Block} → DeepBlock (suc (suc (suc l))) b → DeepBlock (suc (suc (suc l))) (closed d rv b)
close_block d rv (deep_block x) = deep_block (deep_closed d rv x)

-- A compiled body's words stand at most three levels below the source's: its levels alone never make a result too large.
pub levels_suffice : (ps : List Procedure) (arrays : List ℕ) (me : ℕ) (p : Procedure) → FitsBlock (arity_of ps) me (largest_level 0) p.body
    → DeepBlock (largest_level 1) (compiled_body ps arrays p)
unfolding compiled_body
levels_suffice ps arrays me p fit =
    close_block (defers arrays p) (return_variable p)
    (deep_compiled ps arrays p.types (first_moved p) (return_variable p) (temporary_of ps arrays p) (arity_of ps) me fit (guarded p)
    p.parameters false (first_pair arrays p))

procedure_compiled_fits :
    (ps ps' : List Procedure) (arrays : List ℕ) (me : ℕ) (p : Procedure) → FitsProcedure 0 (arity_of ps) me p → GoodProcedure ps' arrays me (compiled_procedure ps arrays p)
    → leb (length (compiled_procedure ps arrays p).types - (compiled_procedure ps arrays p).parameters) 246 ≡ true → me ≤ 32 → length arrays ≤ 16
    → FitsProcedure 1 (arity_of ps') me (compiled_procedure ps arrays p)
unfolding compiled_procedure compiled_body
procedure_compiled_fits ps ps' arrays me p fit good locals low few =
    let h₀ = fit.few_parameters in
    let h₁ = fit.parameters_typed in
    let g = at_most_one (guarded p) in
    let r = compiled_room ps arrays p fit.parameters_typed in
    let l = leb-true (length (compiled_types ps arrays p) - (p.parameters + guards p)) 246 locals in
    record {
      mode_fits = omega arith;
      few_parameters = omega arith;
      parameters_typed = omega arith;
      few_locals = l;
      result_typed = fit.result_typed;
      all_typed = all_compiled ps arrays p fit.all_typed fit.result_typed;
      body_fits = good_deep_block ps' me (p.parameters + guards p) (compiled_types ps arrays p) p.result arrays (omega arith) few low
          (levels_suffice ps arrays me p fit.body_fits) good;
    }

module _ (ps : List Procedure) (arrays : List ℕ) (few : length arrays ≤ 16) where
  abbrev ps' : List Procedure
  ps' = compiled_procedures ps arrays ps

  pub procedures_compiled_fit :
      {me : ℕ} {rest : List Procedure} → FitsProcedures 0 (arity_of ps) me rest → ((i : ℕ) → i < length rest → procedure_at ps (me + i) ≡ procedure_at rest i)
      → me + length rest ≤ length ps → length ps ≤ 32 → GoodProcedures ps' arrays me (compiled_procedures ps arrays rest) → fit_locals (compiled_procedures ps arrays rest) ≡ true
      → FitsProcedures 1 (arity_of ps') me (compiled_procedures ps arrays rest)
  unfolding compiled_procedures fit_locals
  procedures_compiled_fit no_procedures align room low good locals = no_procedures
  procedures_compiled_fit (more_procedures {me} {p} {ps = rest} e fit fits) align room low (good_next m g gs) locals =
      let q = compiled_procedure ps arrays p in
      let own : procedure_at ps me ≡ p = ap (procedure_at ps) (sym (add-zero me)) ∙ align 0 (omega arith) in
      let first : leb (length q.types - q.parameters) 246 ≡ true = and_left (leb (length q.types - q.parameters) 246) (fit_locals (compiled_procedures ps arrays rest)) locals in
      let others : fit_locals (compiled_procedures ps arrays rest) ≡ true = and_right (leb (length q.types - q.parameters) 246)
      (fit_locals (compiled_procedures ps arrays rest)) locals in
      more_procedures (ap (λ (z : Procedure). z.parameters) (compiled_at ps arrays ps me (omega arith)) ∙ ap (λ (z : Procedure). (compiled_procedure ps arrays z).parameters) own)
      (procedure_compiled_fits ps ps' arrays me p fit g first (omega arith) few)
      (procedures_compiled_fit fits (λ i h. ap (procedure_at ps) (omega arith) ∙ align (suc i) (omega arith)) (omega arith) low gs others)

-- A source image that was read and has no fault.
pub record Sound (image : Image) : Type 0 where
  pub read : FitsImage image
  pub source_form : image.form ≡ 0
  pub no_sort_fault : image_sort_faults image ≡ []
  pub no_label_fault : image_label_faults image ≡ []

source_procedures : (image : Image) → Sound image → FitsProcedures 0 (arity_of image.procedures) 0 image.procedures
source_procedures image s = go image.form s.source_form s.read.procedures_fit
  where
    go : (form : ℕ) → form ≡ 0 → FitsProcedures form (arity_of image.procedures) 0 image.procedures → FitsProcedures 0 (arity_of image.procedures) 0 image.procedures
    go form e f = rw e at f

pub image_good : (image : Image) → Sound image → GoodProcedures (compiled_image image).procedures image.arrays 0 (compiled_image image).procedures
unfolding compiled_image image_sort_faults image_label_faults
image_good image s =
    procedures_good image (compiled_procedures image.procedures image.arrays image.procedures) (source_procedures image s) callee s.no_sort_fault s.no_label_fault
  where
    callee :
        (f : ℕ) → f < 0 + length image.procedures
        → Callee (procedure_at image.procedures f) (procedure_at (compiled_procedures image.procedures image.arrays image.procedures) f)
    callee f h =
        let low : f < length image.procedures = omega arith in
        rw (compiled_at image.procedures image.arrays image.procedures f low)
        (compiled_callee image.procedures image.arrays (procedure_at image.procedures f) (procedure_fits (source_procedures image s) f low).parameters_typed)

fits_of :
    (image : Image) → Sound image → GoodProcedures (compiled_image image).procedures image.arrays 0 (compiled_image image).procedures
    → fit_locals (compiled_image image).procedures ≡ true → FitsImage (compiled_image image)
unfolding compiled_image
fits_of image s g l =
    let count = compiled_count image.procedures image.arrays image.procedures in
    let some = s.read.some_procedure in
    let few = s.read.few_procedures in
    record {
      form_fits = omega arith;
      few_arrays = s.read.few_arrays;
      arrays_fit = s.read.arrays_fit;
      some_procedure = omega arith;
      few_procedures = omega arith;
      procedures_fit = procedures_compiled_fit image.procedures image.arrays s.read.few_arrays (source_procedures image s)
          (λ i h. ap (procedure_at image.procedures) (zero-add i)) (omega arith) few g l;
    }

-- The compiled image fits form 1 where it has at most 246 locals in each procedure.
pub image_compiled_fits : (image : Image) → Sound image → fit_locals (compiled_image image).procedures ≡ true → FitsImage (compiled_image image)
image_compiled_fits image s locals = fits_of image s (image_good image s) locals
