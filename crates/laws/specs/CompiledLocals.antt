-- How many variables a compiled procedure has; and that its locals are always within form 1's limit: at most 64 of the source, RV and LIVE, a pair for
-- each of at most nine nesting levels, two temporaries. Assumes nothing.
use Rattle.std.specs.Prelude.{ℕ, ◌+◌, ◌*◌, ◌-◌, ◌≤◌, Bool, true, false, ◌≡◌, length, take, drop}
use mathlib.Core.List.{List, [], ◌∷◌, ◌++◌, append_assoc}
use Rattle.std.proofs.Math.Path.{refl}
use Rattle.std.proofs.Common.{ap, le-leb, take-append-drop}
use native.Mathlib.Omega.{arith}
use Rattle.std.proofs.Math.ListN.{length-append, length-replicate}
use Rattle.definitions.specs.Choice.{pick}
use Rattle.definitions.specs.Operators.{word_sort, boolean_sort}
use Rattle.definitions.specs.Image.{Procedure, Image, guarded}
use Rattle.definitions.specs.Compiling.{secret_boolean, guards, defers, levels, needed, pair_types, temporary_types, compiled_types}
use Rattle.definitions.specs.Compiling.{compiled_procedure, compiled_procedures, compiled_image, fit_locals}
use Rattle.statements.specs.Limits.{FitsProcedure, FitsProcedures, no_procedures, more_procedures, FitsImage}
use Rattle.laws.specs.Nesting.{nesting_block}

-- a part that is there or not
one_or_none : (b : Bool) (x : ℕ) → length (pick {A = List ℕ} b (x ∷ []) []) ≡ pick b 1 0
one_or_none true x = refl
one_or_none false x = refl

two_or_none : (b : Bool) (x y : ℕ) → length (pick {A = List ℕ} b (x ∷ y ∷ []) []) ≡ pick b 2 0
two_or_none true x y = refl
two_or_none false x y = refl

pub at_most_one : (b : Bool) → pick {A = ℕ} b 1 0 ≤ 1
at_most_one true = omega arith
at_most_one false = omega arith

at_most_two : (b : Bool) → pick {A = ℕ} b 2 0 ≤ 2
at_most_two true = omega arith
at_most_two false = omega arith

-- the number of temporaries
abbrev pub temporary_count : Bool → Bool → ℕ
temporary_count word bool = pick word 1 0 + pick bool 1 0

-- the source's variables with the guard among them, RV and LIVE, and then others
pub variables_count : (arrays : List ℕ) (p : Procedure) (rest : List ℕ)
    → length (take p.parameters p.types ++ (pick (guarded p) (secret_boolean ∷ []) []
    ++ (drop p.parameters p.types ++ (pick (defers arrays p) (p.result ∷ secret_boolean ∷ []) [] ++ rest))))
    ≡ length p.types + guards p + pick (defers arrays p) 2 0 + length rest
variables_count arrays p rest =
    let A = take p.parameters p.types in
    let B = pick {A = List ℕ} (guarded p) (secret_boolean ∷ []) [] in
    let C = drop p.parameters p.types in
    let D = pick {A = List ℕ} (defers arrays p) (p.result ∷ secret_boolean ∷ []) [] in
    let e1 = length-append A (B ++ (C ++ (D ++ rest))) in
    let e2 = length-append B (C ++ (D ++ rest)) in
    let e3 = length-append C (D ++ rest) in
    let e4 = length-append D rest in
    let e5 = length-append A C in
    let e6 = ap length (take-append-drop p.parameters p.types) in
    let e7 = one_or_none (guarded p) secret_boolean in
    let e8 = two_or_none (defers arrays p) p.result secret_boolean in
    omega arith

module _ (ps : List Procedure) (arrays : List ℕ) (p : Procedure) where
  pub types_words : (take p.parameters p.types ++ (pick (guarded p) (secret_boolean ∷ []) [] ++ drop p.parameters p.types))
      ++ (pick (defers arrays p) (p.result ∷ secret_boolean ∷ []) []
      ++ (pair_types (levels arrays p) ++ temporary_types (needed ps arrays p word_sort) (needed ps arrays p boolean_sort)))
      ≡ compiled_types ps arrays p
  unfolding compiled_types
  types_words = simp append_assoc

  pub types_count : length (compiled_types ps arrays p)
      ≡ length p.types + guards p + pick (defers arrays p) 2 0 + 2 * levels arrays p
      + temporary_count (needed ps arrays p word_sort) (needed ps arrays p boolean_sort)
  unfolding compiled_types
  types_count =
      let P = pair_types (levels arrays p) in
      let W = pick {A = List ℕ} (needed ps arrays p word_sort) (0x40000001 ∷ []) [] in
      let X = pick {A = List ℕ} (needed ps arrays p boolean_sort) (secret_boolean ∷ []) [] in
      let e1 = variables_count arrays p (P ++ (W ++ X)) in
      let e2 = length-append P (W ++ X) in
      let e3 = length-append W X in
      let e4 = length-replicate (2 * levels arrays p) secret_boolean in
      let e5 = one_or_none (needed ps arrays p word_sort) 0x40000001 in
      let e6 = one_or_none (needed ps arrays p boolean_sort) secret_boolean in
      omega arith

module _ (ps : List Procedure) (arrays : List ℕ) (arity : ℕ → ℕ) where
  pub few_compiled_locals : (me : ℕ) (p : Procedure) → FitsProcedure 0 arity me p → length (compiled_types ps arrays p) - (p.parameters + guards p) ≤ 86
  few_compiled_locals me p f =
      let n = types_count ps arrays p in
      let l = f.few_locals in
      let t = f.parameters_typed in
      let d = nesting_block arrays p.types arity me f.body_fits in
      let b1 = at_most_two (defers arrays p) in
      let b2 = at_most_one (needed ps arrays p word_sort) in
      let b3 = at_most_one (needed ps arrays p boolean_sort) in
      omega arith

  each_fits : {me : ℕ} {qs : List Procedure} → FitsProcedures 0 arity me qs → fit_locals (compiled_procedures ps arrays qs) ≡ true
  unfolding fit_locals compiled_procedure compiled_procedures
  each_fits no_procedures = refl
  each_fits (more_procedures {me} {p} a f fs) =
      let h = few_compiled_locals me p f in
      rw (le-leb (length (compiled_types ps arrays p) - (p.parameters + guards p)) 246 (omega arith), each_fits fs) refl

-- Document 02, wish 8: 15 comes from length alone
pub locals_always_fit : (tree : Image) → FitsImage tree → tree.form ≡ 0 → fit_locals (compiled_image tree).procedures ≡ true
unfolding compiled_image
locals_always_fit tree f z = each_fits tree.procedures tree.arrays _ (rw z at f.procedures_fit)
