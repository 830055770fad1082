-- Every fault that the rules list satisfies P, where P holds of each rule's number at every place of the tree. Assumes nothing.
use Rattle.std.specs.Prelude.{Bool, true, ◌||◌, ℕ, ◌+◌, length, set}
use Rattle.std.proofs.Math.Bool.{false}
use mathlib.Core.List.{List, [], ◌∷◌, ◌++◌, flat_map}
use Rattle.definitions.specs.declared.Fault.{Fault}
use Rattle.definitions.specs.declared.ConstantLoop.{ConstantLoop}
use Rattle.definitions.specs.Image.{Expression, Statement, Block, Procedure, Image, procedure_at}
use Rattle.definitions.specs.Faults.{fault, fault_if}
use Rattle.definitions.specs.Sorts.{inside, sort_faults, argument_faults, statement_sort_faults, block_sort_faults}
use Rattle.definitions.specs.Sorts.{procedure_sort_faults, procedures_sort_faults, image_sort_faults}
use Rattle.definitions.specs.Labels.{secret_in, rc_after, label_faults, argument_label_faults, statement_label_faults}
use Rattle.definitions.specs.Labels.{block_label_faults, procedure_label_faults, procedures_label_faults, image_label_faults}
use Rattle.definitions.specs.Labels.{loop_bound_faults}
use Rattle.laws.specs.Trees.{ExpressionPlaces, at_constant, at_boolean, at_variable, at_cell, at_unary, at_binary}
use Rattle.laws.specs.Trees.{at_select, ExpressionsPlaces, no_expression, and_expression, StatementPlaces}
use Rattle.laws.specs.Trees.{in_assign, in_store, in_conditional, in_loop, in_return, in_call, BlockPlaces}
use Rattle.laws.specs.Trees.{in_done, in_sequence, ProceduresPlaces, no_procedure_lem, and_procedure, own_place}

pub data All (P : Fault → Type 0) : List Fault → Type 0 where
  all_none : All P []
  all_more : {f : Fault} {fs : List Fault} → P f → All P fs → All P (f ∷ fs)

module _ {P : Fault → Type 0} where
  all_append : {fs gs : List Fault} → All P fs → All P gs → All P (fs ++ gs)
  all_append all_none y = y
  all_append (all_more h x) y = all_more h (all_append x y)

  all_if : (c : Bool) (k p : ℕ) → P (fault k p) → All P (fault_if c k p)
  all_if true k p h = all_more h all_none
  all_if false k p h = all_none

ruleset listed = (all_append, all_if, own_place)

-- ---- 6 to 8

module _ {P : Fault → Type 0} {R : ℕ → Type 0}
    (name : (p : ℕ) → R p → P (fault 6 p)) (sort : (p : ℕ) → R p → P (fault 7 p)) (variable : (p : ℕ) → R p → P (fault 8 p)) where
  module _ (types : List ℕ) (arrays : ℕ) where
    all_sorts : (marks : List ℕ) {e : Expression} → ExpressionPlaces R e → All P (sort_faults types arrays marks e)
    unfolding sort_faults
    all_sorts marks (at_constant h) = all_none
    all_sorts marks (at_boolean h) = all_none
    all_sorts marks (at_variable h) = search (listed, name, variable)
    all_sorts marks (at_cell h r) = let i = all_sorts marks r in search (listed, name, sort)
    all_sorts marks (at_unary h r) = let i = all_sorts marks r in search (listed, sort)
    all_sorts marks (at_binary h r s) = let i = all_sorts marks r in let j = all_sorts marks s in search (listed, sort)
    all_sorts marks (at_select h r s t) =
        let i = all_sorts marks r in let j = all_sorts marks s in let k = all_sorts marks t in search (listed, sort) depth 8

    all_arguments : (marks callee : List ℕ) (k : ℕ) {es : List Expression} → ExpressionsPlaces R es
        → All P (argument_faults types arrays marks callee k es)
    unfolding argument_faults
    all_arguments marks callee k no_expression = all_none
    all_arguments marks callee k (and_expression r s) =
        let i = all_sorts marks r in let j = all_arguments marks callee (k + 1) s in search (listed, sort)

    module _ (ps : List Procedure) (parameters result : ℕ) where
      mutual
        unfolding statement_sort_faults block_sort_faults

        all_statement : (marks : List ℕ) {p : ℕ} {s : Statement} → R p → StatementPlaces R s
            → All P (statement_sort_faults ps parameters types result arrays marks p s)
        all_statement marks h (in_assign r) = let i = all_sorts marks r in search (listed, name, sort, variable)
        all_statement marks h (in_store r s) =
            let i = all_sorts marks r in let j = all_sorts marks s in search (listed, name, sort)
        all_statement marks h (in_conditional r s t) =
            let i = all_sorts marks r in let j = all_block marks s in let k = all_block marks t in search (listed, sort)
        all_statement marks h (in_loop {x = x} r s t) =
            let i = all_sorts marks r in
            let j = all_sorts marks s in
            let k = all_block (set marks x inside) t in search (listed, name, sort, variable) depth 8
        all_statement marks h (in_return r) = let i = all_sorts marks r in search (listed, sort)
        all_statement marks h (in_call {f = f} r) =
            let i = all_arguments marks (procedure_at ps f).types 0 r in search (listed, name, sort, variable)

        all_block : (marks : List ℕ) {b : Block} → BlockPlaces R b → All P (block_sort_faults ps parameters types result arrays marks b)
        all_block marks in_done = all_none
        all_block marks (in_sequence h r s) = all_append (all_statement marks h r) (all_block marks s)

  all_procedures : (ps : List Procedure) (arrays : ℕ) {qs : List Procedure} → ProceduresPlaces R qs → All P (procedures_sort_faults ps arrays qs)
  unfolding procedures_sort_faults procedure_sort_faults flat_map
  all_procedures ps arrays no_procedure_lem = all_none
  all_procedures ps arrays (and_procedure {p} r s) =
      all_append (all_block p.types arrays ps p.parameters p.result _ r) (all_procedures ps arrays s)

  pub all_sort_faults : (image : Image) → ProceduresPlaces R image.procedures → All P (image_sort_faults image)
  unfolding image_sort_faults
  all_sort_faults image r = all_procedures image.procedures (length image.arrays) r

-- ---- 9 to 13

module _ {P : Fault → Type 0} {R : ℕ → Type 0}
    (flow : (p : ℕ) → R p → P (fault 9 p)) (secret : (p : ℕ) → R p → P (fault 10 p)) (unbounded : (p : ℕ) → R p → P (fault 11 p))
    (unguarded : (p : ℕ) → R p → P (fault 12 p)) (branch : (p : ℕ) → R p → P (fault 13 p)) where
  module _ (types arrays : List ℕ) where
    all_labels : (bounds : List ConstantLoop) (context : Bool) {e : Expression} → ExpressionPlaces R e → All P (label_faults types arrays bounds context e)
    unfolding label_faults
    all_labels bounds context (at_constant h) = all_none
    all_labels bounds context (at_boolean h) = all_none
    all_labels bounds context (at_variable h) = all_none
    all_labels bounds context (at_cell h r) = let i = all_labels bounds context r in search (listed, secret, unbounded)
    all_labels bounds context (at_unary h r) = all_labels bounds context r
    all_labels bounds context (at_binary h r s) =
        let i = all_labels bounds context r in let j = all_labels bounds context s in search (listed, secret, unbounded)
    all_labels bounds context (at_select h r s t) =
        all_append (all_labels bounds context r) (all_append (all_labels bounds context s) (all_labels bounds context t))

    all_argument_labels : (bounds : List ConstantLoop) (context : Bool) (callee : List ℕ) (k : ℕ) {es : List Expression} → ExpressionsPlaces R es
        → All P (argument_label_faults types arrays bounds context callee k es)
    unfolding argument_label_faults
    all_argument_labels bounds context callee k no_expression = all_none
    all_argument_labels bounds context callee k (and_expression r s) =
        let i = all_labels bounds context r in let j = all_argument_labels bounds context callee (k + 1) s in search (listed, flow)

    all_bound_labels : (bounds : List ConstantLoop) (context : Bool) {e : Expression} → ExpressionPlaces R e → All P (loop_bound_faults types arrays bounds context e)
    all_bound_labels bounds context r = let i = all_labels bounds context r in search (listed, secret, unbounded)

    module _ (form : ℕ) (ps : List Procedure) (result : ℕ) where
      mutual
        unfolding statement_label_faults block_label_faults

        all_statement_labels : (bounds : List ConstantLoop) (pc rc : Bool) {p : ℕ} {s : Statement} → R p → StatementPlaces R s
            → All P (statement_label_faults form ps arrays types result bounds pc rc p s)
        all_statement_labels bounds pc rc h (in_assign r) = let i = all_labels bounds (pc || rc) r in search (listed, flow)
        all_statement_labels bounds pc rc h (in_store r s) =
            let i = all_labels bounds (pc || rc) r in
            let j = all_labels bounds (pc || rc) s in search (listed, flow, secret, unbounded)
        all_statement_labels bounds pc rc h (in_conditional {c} r s t) =
            let i = all_labels bounds (pc || rc) r in
            let j = all_block_labels bounds (pc || secret_in types arrays c) rc s in
            let k = all_block_labels bounds (pc || secret_in types arrays c) rc t in search (listed, branch)
        all_statement_labels bounds pc rc h (in_loop r s t) =
            all_append (all_bound_labels bounds (pc || rc) r)
            (all_append (all_bound_labels bounds (pc || rc) s) (all_block_labels _ _ _ t))
        all_statement_labels bounds pc rc h (in_return r) = let i = all_labels bounds (pc || rc) r in search (listed, flow)
        all_statement_labels bounds pc rc h (in_call {f = f} r) =
            let i = all_argument_labels bounds (pc || rc) (procedure_at ps f).types 0 r in search (listed, flow, unguarded)

        all_block_labels : (bounds : List ConstantLoop) (pc rc : Bool) {b : Block} → BlockPlaces R b
            → All P (block_label_faults form ps arrays types result bounds pc rc b)
        all_block_labels bounds pc rc in_done = all_none
        all_block_labels bounds pc rc (in_sequence {s = s} h r t) =
            all_append (all_statement_labels bounds pc rc h r) (all_block_labels bounds pc (rc_after types arrays pc rc s) t)

  all_procedure_labels : (image : Image) {qs : List Procedure} → ProceduresPlaces R qs → All P (procedures_label_faults image qs)
  unfolding procedures_label_faults procedure_label_faults flat_map
  all_procedure_labels image no_procedure_lem = all_none
  all_procedure_labels image (and_procedure {p} r s) =
      all_append (all_block_labels p.types image.arrays image.form image.procedures p.result _ _ false r)
      (all_procedure_labels image s)

  pub all_label_faults : (image : Image) → ProceduresPlaces R image.procedures → All P (image_label_faults image)
  unfolding image_label_faults
  all_label_faults image r = all_procedure_labels image r
