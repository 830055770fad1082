-- Where the body of a procedure stands that is compiled: its layout, and the variables that its code has. Assumes nothing.
use Rattle.std.specs.Prelude.{◌≡◌, refl, Bool, true, false, ◌&&◌, [], ℕ, zero, suc, ◌+◌, ◌*◌, ◌-◌, ◌<◌, ◌≤◌, ltb, leb, eqb, length, get_or, replicate}
use Rattle.std.proofs.Common.{◌∙◌, arith}
use Rattle.std.proofs.lemmas.Bool.{false≢true}
use Rattle.std.proofs.Math.ListN.{length-replicate}
use borrow.Author.Tests.{ltb-true, ltb-false, leb-true}
use Rattle.definitions.specs.Choice.{pick}
use Rattle.definitions.specs.Operators.{word_sort, boolean_sort}
use Rattle.definitions.specs.Image.{type_sort, Block, Procedure, Image, guarded}
use Rattle.definitions.specs.Sorts.{ordinary, mark_block, procedure_sort_faults}
use Rattle.definitions.specs.Labels.{unbounded, procedure_label_faults}
use Rattle.definitions.specs.Compiling.{renamed, defers, guards, return_variable, first_pair, levels, needed, first_moved}
use Rattle.definitions.specs.Compiling.{compiled_types, temporary_of}
use Rattle.laws.specs.Tests.{and_left, conjuncts}
use Rattle.laws.specs.CompiledLocals.{at_most_one, temporary_count, types_count}
use Rattle.preservation.specs.WellRead.{well_read_procedure, counted_block}
use Rattle.preservation.specs.Evaluations.{MayBound}
use Rattle.preservation.specs.Layouts.{Layout, Scope, Reserved, Allocation}
use Rattle.preservation.specs.Positions.{codes, size_of_block, BlockAt}
use Rattle.preservation.specs.Marks.{mark_length_block, mark_marks_block}

-- a procedure that reading gave and no rule refuses, whose compiled form has at most 246 locals
pub record Accepted (I : Image) (P : Procedure) : Type 0 where
  pub well : well_read_procedure I.procedures P ≡ true
  pub sorts : procedure_sort_faults I.procedures (length I.arrays) P ≡ []
  pub labels : procedure_label_faults I P ≡ []
  pub fits : leb (length (compiled_types I.procedures I.arrays P) - (P.parameters + guards P)) 246 ≡ true

abbrev pub layout_of : Image → Procedure → Layout
layout_of I P =
    record {
      form = I.form;
      procedures = I.procedures;
      arrays = I.arrays;
      parameters = P.parameters;
      types = P.types;
      result = P.result;
      first = first_moved P;
      rv = return_variable P;
      defers = defers I.arrays P;
      temporary = temporary_of I.procedures I.arrays P;
    }

abbrev pub scope_of : Image → Procedure → Scope
scope_of I P = record { marks = mark_block P.body (replicate 256 ordinary); bounds = replicate 256 unbounded; limit = first_pair I.arrays P }

-- a procedure's body, compiled, before it is closed
abbrev pub body_code : Image → Procedure → Block
body_code I P = codes (layout_of I P) P.body (guarded P) P.parameters false (first_pair I.arrays P)

pub get_d_default : {A : Type 0} (n x : ℕ) (d : A) → get_or (replicate n d) x d ≡ d
get_d_default zero x d = refl
get_d_default (suc n) zero d = refl
get_d_default (suc n) (suc x) d = get_d_default n x d

-- a body begins outside of every for
pub no_bounds_lem : (x : ℕ) → MayBound (get_or (replicate 256 unbounded) x unbounded) → ⊥
no_bounds_lem x q =
    let l : MayBound unbounded = rw (get_d_default 256 x unbounded) at q in
    let n = l (omega arith) in omega arith

module _ {I : Image} {P : Procedure} (h : Accepted I P) where
  pub few_parameters : P.parameters ≤ 8
  unfolding well_read_procedure
  few_parameters = leb-true P.parameters 8 (and_left (leb P.parameters 8) (leb P.parameters (length P.types) && counted_block I.procedures P.body) h.well)

  pub typed_parameters : P.parameters ≤ length P.types
  unfolding well_read_procedure
  typed_parameters =
      let w = h.well in
      leb-true P.parameters (length P.types) (search conjuncts)

  pub guards_few : guards P ≤ 1
  guards_few = at_most_one (guarded P)

  -- the compiled variables: those up to the pairs, the pairs, and the temporaries
  body_variables : first_pair I.arrays P + size_of_block (layout_of I P) P.body
      + temporary_count (needed I.procedures I.arrays P word_sort) (needed I.procedures I.arrays P boolean_sort) ≤ 255
  body_variables =
      let f = leb-true (length (compiled_types I.procedures I.arrays P) - (P.parameters + guards P)) 246 h.fits in
      let e = types_count I.procedures I.arrays P in
      let p = few_parameters in
      let g = guards_few in
      omega arith

  -- a temporary that the body needs is one of the frame
  body_temporaries : (w : ℕ) → needed I.procedures I.arrays P (type_sort w) ≡ true → temporary_of I.procedures I.arrays P (type_sort w) < 255
  body_temporaries w = go (type_sort w) (omega arith)
    where
      go : (sort : ℕ) → sort < 2 → needed I.procedures I.arrays P sort ≡ true → temporary_of I.procedures I.arrays P sort < 255
      go zero i n = let b = rw n at body_variables in omega arith
      go (suc zero) i n = let b = rw n at body_variables in omega arith
      go (suc (suc sort)) i n = absurd (omega arith)

  -- the source's variables stand below RV, and are not the guard
  variables_low : (x : ℕ) → x < length P.types → renamed (first_moved P) x < return_variable P
  variables_low x i = go (guarded P)
    where
      moved_low : (first : ℕ) (b : Bool) → pick b x (x + 1) < length P.types + 1
      moved_low first true = omega arith
      moved_low first false = omega arith

      stays_low : (b : Bool) → ltb x (length P.types) ≡ b → pick b x (x + 1) < length P.types + 0
      stays_low true e = omega arith
      stays_low false e = let j = ltb-false x (length P.types) e in absurd (omega arith)

      go : (g : Bool) → renamed (pick g P.parameters (length P.types)) x < length P.types + pick g 1 0
      go true = moved_low P.parameters (ltb x P.parameters)
      go false = stays_low (ltb x (length P.types)) refl

  guard_reserved : guarded P ≡ true → Reserved (layout_of I P) (first_pair I.arrays P) P.parameters
  guard_reserved g =
      let p = typed_parameters in
      rw g ((omega arith), λ x i e. not_moved P.parameters x (ltb x P.parameters) refl e, λ d e. absurd (omega arith), λ d e. absurd (omega arith))
    where
      not_moved : (q x : ℕ) (b : Bool) → ltb x q ≡ b → q ≡ pick b x (x + 1) → ⊥
      not_moved q x true f e = let j = ltb-true x q f in omega arith
      not_moved q x false f e = let j = ltb-false x q f in omega arith

  body_allocation : Allocation (layout_of I P) (scope_of I P) (guarded P) P.parameters false (first_pair I.arrays P)
      (size_of_block (layout_of I P) P.body) (defers I.arrays P)
  body_allocation =
      let r = body_variables in
      record {
        low = variables_low;
        few = omega arith;
        marks_size = mark_length_block P.body (replicate 256 ordinary) ∙ length-replicate 256 ordinary;
        bounds_size = length-replicate 256 unbounded;
        tied = λ x q. absurd (no_bounds_lem x q);
        base = omega arith;
        returns = λ d. rw d (omega arith);
        armed = guard_reserved;
        free = omega arith;
        room = omega arith;
        above = λ sort. temporary_above (eqb sort word_sort);
        begins = λ e. absurd (false≢true e);
        ends = λ e. e;
      }
    where
      temporary_above : (word : Bool) → first_pair I.arrays P + size_of_block (layout_of I P) P.body
          ≤ pick word (first_pair I.arrays P + 2 * levels I.arrays P)
          (first_pair I.arrays P + 2 * levels I.arrays P + pick (needed I.procedures I.arrays P word_sort) 1 0)
      temporary_above true = omega arith
      temporary_above false = omega arith

  pub body_block : BlockAt (layout_of I P) (scope_of I P) (guarded P) P.parameters false (first_pair I.arrays P) P.body
  unfolding procedure_sort_faults procedure_label_faults well_read_procedure
  body_block =
      let w = h.well in
      record {
        rules = record {
          sorts = h.sorts;
          labels = h.labels;
          counts = search conjuncts;
          marked = mark_marks_block I.procedures P.parameters P.types P.result (length I.arrays) (mark_block P.body (replicate 256 ordinary)) P.body (replicate 256 ordinary) (mark_block P.body (replicate 256 ordinary))
              (let r = body_allocation.few in let e = length-replicate 256 ordinary in omega arith) (λ x q. q) h.sorts;
        };
        allocation = body_allocation;
        temporaries = body_temporaries;
      }
