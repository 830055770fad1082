-- The rules that a statement keeps which leaves no fault, taken apart: of its variables, its expressions and its blocks. Assumes nothing.
use Rattle.std.specs.Prelude.{◌≡◌, refl, Bool, true, ◌&&◌, ◌||◌, not, List, [], ◌∷◌, ℕ, zero, suc, ◌<◌, ltb, leb, length, get_or, set}
use Rattle.std.proofs.Math.Bool.{false}
use Rattle.std.proofs.Common.{arith}
use Rattle.std.proofs.Math.Dec.{eqb}
use borrow.Author.Tests.{leb-true, leb-false, eqb-true, eqb-false, not-false}
use Rattle.definitions.specs.declared.ConstantLoop.{ConstantLoop}
use Rattle.definitions.specs.Image.{array_length, type_secret, type_sort, Expression, place_of, Statement, assign, store}
use Rattle.definitions.specs.Image.{conditional, loop, return, call, Block, done, sequence, guarded, procedure_at}
use Rattle.definitions.specs.Operators.{boolean_sort}
use Rattle.definitions.specs.Sorts.{ordinary, outside, inside, sort_faults, argument_faults, statement_sort_faults}
use Rattle.definitions.specs.Sorts.{block_sort_faults}
use Rattle.definitions.specs.Labels.{is_constant, bounded_index, bounds_inside, label_faults, argument_label_faults}
use Rattle.definitions.specs.Labels.{statement_label_faults, block_label_faults}
use Rattle.laws.specs.Tests.{and_left, and_right, and_fails, or_fails_right, kept, empties, conjuncts}
use Rattle.preservation.specs.WellRead.{counted_statement, counted_block}
use Rattle.preservation.specs.Layouts.{Layout, rc_after_at, rc_after_block_at, secret_at}

-- each for's variable is marked as a loop variable
unfoldable mutual
  pub marked_statement : List ℕ → Statement → Bool
  marked_statement marks (assign x e) = true
  marked_statement marks (store a i e) = true
  marked_statement marks (conditional c a b) = marked_block marks a && marked_block marks b
  marked_statement marks (loop x f t b) = leb 1 (get_or marks x 0) && (leb (get_or marks x 0) 2 && marked_block marks b)
  marked_statement marks (return e) = true
  marked_statement marks (call f x es) = true

  pub marked_block : List ℕ → Block → Bool
  marked_block marks done = true
  marked_block marks (sequence l s b) = marked_statement marks s && marked_block marks b

-- writing an entry of a list gives it there or nowhere
pub set_either : (m : List ℕ) (x v y : ℕ) (P : ℕ → Type 0) → P v → P (get_or m y 0) → P (get_or (set m x v) y 0)
set_either [] x v y P p q = q
set_either (a ∷ m) zero v zero P p q = p
set_either (a ∷ m) zero v (suc y) P p q = q
set_either (a ∷ m) (suc x) v zero P p q = q
set_either (a ∷ m) (suc x) v (suc y) P p q = set_either m x v y P p q

mutual
  unfolding marked_statement marked_block

  pub marked_inside : (marks : List ℕ) (x : ℕ) (s : Statement) → marked_statement marks s ≡ true → marked_statement (set marks x inside) s ≡ true
  marked_inside marks x (assign y e) h = refl
  marked_inside marks x (store a i e) h = refl
  marked_inside marks x (conditional c a b) h =
      rw (marked_inside_block marks x a (and_left (marked_block marks a) (marked_block marks b) h)) (marked_inside_block marks x b (and_right (marked_block marks a) (marked_block marks b) h))
  marked_inside marks x (loop y f t b) h =
      let p = set_either marks x 2 y (λ m. leb 1 m ≡ true) refl (and_left (leb 1 (get_or marks y 0)) (leb (get_or marks y 0) 2 && marked_block marks b) h) in
      let r = and_right (leb 1 (get_or marks y 0)) (leb (get_or marks y 0) 2 && marked_block marks b) h in
      let q = set_either marks x 2 y (λ m. leb m 2 ≡ true) refl (and_left (leb (get_or marks y 0) 2) (marked_block marks b) r) in
      rw (p, q) (marked_inside_block marks x b (and_right (leb (get_or marks y 0) 2) (marked_block marks b) r))
  marked_inside marks x (return e) h = refl
  marked_inside marks x (call f y es) h = refl

  pub marked_inside_block : (marks : List ℕ) (x : ℕ) (b : Block) → marked_block marks b ≡ true → marked_block (set marks x inside) b ≡ true
  marked_inside_block marks x done h = refl
  marked_inside_block marks x (sequence l s b) h =
      rw (marked_inside marks x s (and_left (marked_statement marks s) (marked_block marks b) h)) (marked_inside_block marks x b (and_right (marked_statement marks s) (marked_block marks b) h))

-- a statement that keeps all rules where it stands
pub record StatementRules (L : Layout) (marks : List ℕ) (bounds : List ConstantLoop) (pc rc : Bool) (l : ℕ) (s : Statement) : Type 0 where
  pub sorts : statement_sort_faults L.procedures L.parameters L.types L.result (length L.arrays) marks l s ≡ []
  pub labels : statement_label_faults L.form L.procedures L.arrays L.types L.result bounds pc rc l s ≡ []
  pub counts : counted_statement L.procedures s ≡ true
  pub marked : marked_statement marks s ≡ true

pub record BlockRules (L : Layout) (marks : List ℕ) (bounds : List ConstantLoop) (pc rc : Bool) (b : Block) : Type 0 where
  pub sorts : block_sort_faults L.procedures L.parameters L.types L.result (length L.arrays) marks b ≡ []
  pub labels : block_label_faults L.form L.procedures L.arrays L.types L.result bounds pc rc b ≡ []
  pub counts : counted_block L.procedures b ≡ true
  pub marked : marked_block marks b ≡ true

-- an expression that keeps all rules in a context that is secret or not
pub record ExpressionRules (L : Layout) (marks : List ℕ) (bounds : List ConstantLoop) (context : Bool) (e : Expression) : Type 0 where
  pub sorts : sort_faults L.types (length L.arrays) marks e ≡ []
  pub labels : label_faults L.types L.arrays bounds context e ≡ []

module _ {L : Layout} {marks : List ℕ} {bounds : List ConstantLoop} {pc rc : Bool} {l : ℕ} where
  -- an assigned variable is one of the procedure and no loop variable
  pub assign_variable : {x : ℕ} {e : Expression} → StatementRules L marks bounds pc rc l (assign x e) → (x < length L.types) × (get_or marks x 0 ≡ ordinary)
  unfolding statement_sort_faults
  assign_variable {x} {e} h =
      let s = h.sorts in (
        leb-false (length L.types) x (kept _ 6 l (search empties)),
        eqb-true (get_or marks x 0) ordinary (not-false _ (kept _ 8 l (search empties))),
      )

  pub assign_value : {x : ℕ} {e : Expression} → StatementRules L marks bounds pc rc l (assign x e) → ExpressionRules L marks bounds (pc || rc) e
  unfolding statement_sort_faults statement_label_faults
  assign_value h = let s = h.sorts in let t = h.labels in record { sorts = search empties; labels = search empties }

  pub store_index : {a : ℕ} {i e : Expression} → StatementRules L marks bounds pc rc l (store a i e) → ExpressionRules L marks bounds (pc || rc) i
  unfolding statement_sort_faults statement_label_faults
  store_index h = let s = h.sorts in let t = h.labels in record { sorts = search empties; labels = search empties }

  pub store_value : {a : ℕ} {i e : Expression} → StatementRules L marks bounds pc rc l (store a i e) → ExpressionRules L marks bounds (pc || rc) e
  unfolding statement_sort_faults statement_label_faults
  store_value h = let s = h.sorts in let t = h.labels in record { sorts = search empties; labels = search empties }

  pub store_bounded : {a : ℕ} {i e : Expression} → StatementRules L marks bounds pc rc l (store a i e) → (pc || rc) ≡ true
      → bounded_index bounds (array_length (get_or L.arrays a 0)) i ≡ true
  unfolding statement_label_faults
  store_bounded {a} {i} h c =
      let t = h.labels in
      not-false (bounded_index bounds (array_length (get_or L.arrays a 0)) i) (and_fails (pc || rc) (not (bounded_index bounds (array_length (get_or L.arrays a 0)) i)) (kept _ 11 (place_of i) (search empties)) c)

  pub if_condition : {c : Expression} {a b : Block} → StatementRules L marks bounds pc rc l (conditional c a b) → ExpressionRules L marks bounds (pc || rc) c
  unfolding statement_sort_faults statement_label_faults
  if_condition h = let s = h.sorts in let t = h.labels in record { sorts = search empties; labels = search empties }

  pub if_then : {c : Expression} {a b : Block} → StatementRules L marks bounds pc rc l (conditional c a b) → BlockRules L marks bounds (pc || secret_at L c) rc a
  unfolding statement_sort_faults statement_label_faults counted_statement marked_statement
  if_then h =
      let s = h.sorts in let t = h.labels in let u = h.counts in let v = h.marked in
      record { sorts = search empties; labels = search empties; counts = search conjuncts; marked = search conjuncts }

  pub if_else : {c : Expression} {a b : Block} → StatementRules L marks bounds pc rc l (conditional c a b) → BlockRules L marks bounds (pc || secret_at L c) rc b
  unfolding statement_sort_faults statement_label_faults counted_statement marked_statement
  if_else h =
      let s = h.sorts in let t = h.labels in let u = h.counts in let v = h.marked in
      record { sorts = search empties; labels = search empties; counts = search conjuncts; marked = search conjuncts }

  -- a for's variable is one of the procedure, and a loop variable outside its fors
  pub loop_variable : {x : ℕ} {f g : Expression} {b : Block} → StatementRules L marks bounds pc rc l (loop x f g b) → (x < length L.types) × (get_or marks x 0 ≡ outside)
  unfolding statement_sort_faults marked_statement
  loop_variable {x} {f} {g} {b} h =
      let s = h.sorts in
      let p : (ltb x L.parameters || (type_secret (get_or L.types x 0) || (eqb (type_sort (get_or L.types x 0)) boolean_sort || eqb (get_or marks x 0) inside))) ≡ false
      = kept _ 8 l (search empties) in
      let q = eqb-false (get_or marks x 0) inside (search (or_fails_right)) in
      let m = h.marked in
      let i = leb-true 1 (get_or marks x 0) (and_left (leb 1 (get_or marks x 0)) (leb (get_or marks x 0) 2 && marked_block marks b) m) in
      let j = leb-true (get_or marks x 0) 2 (and_left (leb (get_or marks x 0) 2) (marked_block marks b) (and_right (leb 1 (get_or marks x 0)) (leb (get_or marks x 0) 2 && marked_block marks b) m)) in
      (leb-false (length L.types) x (kept _ 6 l (search empties)), omega arith)

  pub loop_from : {x : ℕ} {f g : Expression} {b : Block} → StatementRules L marks bounds pc rc l (loop x f g b) → ExpressionRules L marks bounds (pc || rc) f
  unfolding statement_sort_faults statement_label_faults
  loop_from h = let s = h.sorts in let t = h.labels in record { sorts = search empties; labels = search empties }

  pub loop_to : {x : ℕ} {f g : Expression} {b : Block} → StatementRules L marks bounds pc rc l (loop x f g b) → ExpressionRules L marks bounds (pc || rc) g
  unfolding statement_sort_faults statement_label_faults
  loop_to h = let s = h.sorts in let t = h.labels in record { sorts = search empties; labels = search empties }

  -- in a secret context the bounds are constants
  pub loop_constants : {x : ℕ} {f g : Expression} {b : Block} → StatementRules L marks bounds pc rc l (loop x f g b) → (pc || rc) ≡ true → (is_constant f ≡ true) × (is_constant g ≡ true)
  unfolding statement_label_faults
  loop_constants {f = f} {g} h c =
      let t = h.labels in (
        not-false (is_constant f) (and_fails (pc || rc) (not (is_constant f)) (kept _ 11 (place_of f) (search empties)) c),
        not-false (is_constant g) (and_fails (pc || rc) (not (is_constant g)) (kept _ 11 (place_of g) (search empties)) c),
      )

  pub loop_body : {x : ℕ} {f g : Expression} {b : Block} → StatementRules L marks bounds pc rc l (loop x f g b)
      → BlockRules L (set marks x inside) (bounds_inside bounds x f g) pc (rc_after_block_at L pc rc b) b
  unfolding statement_sort_faults statement_label_faults counted_statement marked_statement
  loop_body {x} {f} {g} {b} h =
      let s = h.sorts in let t = h.labels in let m = h.marked in
      record {
        sorts = search empties;
        labels = search empties;
        counts = h.counts;
        marked = marked_inside_block marks x b (search conjuncts);
      }

  pub return_value : {e : Expression} → StatementRules L marks bounds pc rc l (return e) → ExpressionRules L marks bounds (pc || rc) e
  unfolding statement_sort_faults statement_label_faults
  return_value h = let s = h.sorts in let t = h.labels in record { sorts = search empties; labels = search empties }

  pub call_variable : {f x : ℕ} {es : List Expression} → StatementRules L marks bounds pc rc l (call f x es) → (x < length L.types) × (get_or marks x 0 ≡ ordinary)
  unfolding statement_sort_faults
  call_variable {x = x} h =
      let s = h.sorts in (
        leb-false (length L.types) x (kept _ 6 l (search empties)),
        eqb-true (get_or marks x 0) ordinary (not-false _ (kept _ 8 l (search empties))),
      )

  pub call_sorts : {f x : ℕ} {es : List Expression} → StatementRules L marks bounds pc rc l (call f x es)
      → argument_faults L.types (length L.arrays) marks (procedure_at L.procedures f).types 0 es ≡ []
  unfolding statement_sort_faults
  call_sorts h = let s = h.sorts in search empties

  pub call_labels : {f x : ℕ} {es : List Expression} → StatementRules L marks bounds pc rc l (call f x es)
      → argument_label_faults L.types L.arrays bounds (pc || rc) (procedure_at L.procedures f).types 0 es ≡ []
  unfolding statement_label_faults
  call_labels h = let s = h.labels in search empties

  pub call_guarded : {f x : ℕ} {es : List Expression} → StatementRules L marks bounds pc rc l (call f x es) → (pc || rc) ≡ true → guarded (procedure_at L.procedures f) ≡ true
  unfolding statement_label_faults
  call_guarded {f} h c =
      let s = h.labels in
      not-false (guarded (procedure_at L.procedures f)) (and_fails (pc || rc) (not (guarded (procedure_at L.procedures f))) (kept _ 12 l (search empties)) c)

  pub call_count : {f x : ℕ} {es : List Expression} → StatementRules L marks bounds pc rc l (call f x es) → length es ≡ (procedure_at L.procedures f).parameters
  unfolding counted_statement
  call_count {f} {x} {es} h = eqb-true (length es) (procedure_at L.procedures f).parameters h.counts

module _ {L : Layout} {marks : List ℕ} {bounds : List ConstantLoop} {pc rc : Bool} where
  pub block_first : {l : ℕ} {s : Statement} {b : Block} → BlockRules L marks bounds pc rc (sequence l s b) → StatementRules L marks bounds pc rc l s
  unfolding block_sort_faults block_label_faults counted_block marked_block
  block_first h =
      let s = h.sorts in let t = h.labels in let u = h.counts in let v = h.marked in
      record { sorts = search empties; labels = search empties; counts = search conjuncts; marked = search conjuncts }

  pub block_rest : {l : ℕ} {s : Statement} {b : Block} → BlockRules L marks bounds pc rc (sequence l s b) → BlockRules L marks bounds pc (rc_after_at L pc rc s) b
  unfolding block_sort_faults block_label_faults counted_block marked_block
  block_rest h =
      let s = h.sorts in let t = h.labels in let u = h.counts in let v = h.marked in
      record { sorts = search empties; labels = search empties; counts = search conjuncts; marked = search conjuncts }
