-- Document 01, "Labels": what a statement or expression in which no fault is listed keeps to.
-- Assumes nothing.
use Rattle.std.specs.Prelude.{◌≡◌, refl, Bool, true, false, ◌&&◌, ◌||◌, List, ◌∷◌, [], ℕ, ◌+◌, eqb, leb, get_or}
use Rattle.std.proofs.Math.Bool.{not}
use Rattle.std.proofs.Common.{true≢false}
use Rattle.std.proofs.lemmas.Bool.{false≢true}
use Rattle.definitions.specs.declared.ConstantLoop.{ConstantLoop}
use Rattle.definitions.specs.Operators.{operator, both, right, divides, shifts}
use Rattle.definitions.specs.Image.{array_secret, type_secret, Expression, cell, binary, select, place_of, Statement}
use Rattle.definitions.specs.Image.{assign, store, conditional, loop, return, call, Block, sequence, Procedure}
use Rattle.definitions.specs.Image.{procedure_at}
use Rattle.definitions.specs.Faults.{fault_if}
use Rattle.definitions.specs.Labels.{secret_in, rc_after, rc_after_block, label_faults, argument_label_faults, loop_bound_faults}
use Rattle.definitions.specs.Labels.{bounds_inside, statement_label_faults, block_label_faults}
use Rattle.laws.specs.Tests.{nil_left, nil_right, kept}
use Rattle.laws.specs.OperatorTests.{division_publics, shift_publics}

pub or_left : (a b : Bool) → (a || b) ≡ false → a ≡ false
or_left true b h = h
or_left false b h = refl

pub or_right : (a b : Bool) → (a || b) ≡ false → b ≡ false
or_right true b h = absurd (true≢false h)
or_right false b h = h

-- what is secret, or in a secret context, reaches only what is secret
flow : (secret context target : Bool) → ((secret || context) && not target) ≡ false → target ≡ false → secret ≡ false
flow true context true h e = e
flow true context false h e = h
flow false context target h e = refl

passed : (secret target : Bool) → (secret && not target) ≡ false → target ≡ false → secret ≡ false
passed true true h e = e
passed true false h e = h
passed false target h e = refl

both_tests : (a s : Bool) → a ≡ true → (a && s) ≡ false → s ≡ false
both_tests true s e h = h
both_tests false s e h = absurd (false≢true e)

module _ (types arrays : List ℕ) (bounds : List ConstantLoop) (context : Bool) where
  -- an index is public
  pub cell_rules : (p a : ℕ) (i : Expression) → (label_faults types arrays bounds context (cell p a i) ≡ [])
      → (label_faults types arrays bounds context i ≡ []) × (secret_in types arrays i ≡ false)
  unfolding label_faults
  cell_rules p a i h =
      let k : (fault_if (secret_in types arrays i) 10 (place_of i) ≡ []) = search (nil_left, nil_right) in
      (search nil_left, kept (secret_in types arrays i) 10 (place_of i) k)

  -- both sides of a division are public, and so is a shift's count
  pub binary_rules : (p o : ℕ) (e f : Expression) → (label_faults types arrays bounds context (binary p o e f) ≡ [])
      → (label_faults types arrays bounds context e ≡ []) × (label_faults types arrays bounds context f ≡ [])
      × (divides o ≡ true → (secret_in types arrays e ≡ false) × (secret_in types arrays f ≡ false))
      × (shifts o ≡ true → secret_in types arrays f ≡ false)
  unfolding label_faults
  binary_rules p o e f h =
      let j : (fault_if (eqb (operator o).publics both && secret_in types arrays e) 10 (place_of e) ≡ []) = search (nil_left, nil_right) in
      let k : (fault_if (leb right (operator o).publics && secret_in types arrays f) 10 (place_of f) ≡ []) = search (nil_left, nil_right) in (
        search nil_left,
        search (nil_left, nil_right),
        λ d. (
          both_tests (eqb (operator o).publics both) (secret_in types arrays e) (rw (division_publics o d) refl)
              (kept (eqb (operator o).publics both && secret_in types arrays e) 10 (place_of e) j),
          both_tests (leb right (operator o).publics) (secret_in types arrays f) (rw (division_publics o d) refl)
              (kept (leb right (operator o).publics && secret_in types arrays f) 10 (place_of f) k),
        ),
        λ d. both_tests (leb right (operator o).publics) (secret_in types arrays f) (rw (shift_publics o d) refl)
            (kept (leb right (operator o).publics && secret_in types arrays f) 10 (place_of f) k),
      )

  pub select_rules : (p : ℕ) (c e f : Expression) → (label_faults types arrays bounds context (select p c e f) ≡ [])
      → (label_faults types arrays bounds context c ≡ []) × (label_faults types arrays bounds context e ≡ [])
      × (label_faults types arrays bounds context f ≡ [])
  unfolding label_faults
  select_rules p c e f h = (search nil_left, search (nil_left, nil_right), search (nil_left, nil_right))

  -- a secret value reaches no public parameter
  pub argument_rules : (callee : List ℕ) (k : ℕ) (e : Expression) (es : List Expression)
      → (argument_label_faults types arrays bounds context callee k (e ∷ es) ≡ [])
      → (label_faults types arrays bounds context e ≡ []) × (type_secret (get_or callee k 0) ≡ false → secret_in types arrays e ≡ false)
      × (argument_label_faults types arrays bounds context callee (k + 1) es ≡ [])
  unfolding argument_label_faults
  argument_rules callee k e es h =
      let j : (fault_if (secret_in types arrays e && not (type_secret (get_or callee k 0))) 9 (place_of e) ≡ []) = search (nil_left, nil_right) in (
        search nil_left,
        λ g. passed (secret_in types arrays e) (type_secret (get_or callee k 0))
            (kept (secret_in types arrays e && not (type_secret (get_or callee k 0))) 9 (place_of e) j) g,
        search (nil_left, nil_right),
      )

  -- loop bounds are public
  pub bound_rules : (e : Expression) → (loop_bound_faults types arrays bounds context e ≡ [])
      → (label_faults types arrays bounds context e ≡ []) × (secret_in types arrays e ≡ false)
  bound_rules e h =
      let k : (fault_if (secret_in types arrays e) 10 (place_of e) ≡ []) = search (nil_left, nil_right) in
      (search nil_left, kept (secret_in types arrays e) 10 (place_of e) k)

-- The statements, in an image of the given form, at a place with the given bounds, pc and rc.
module _ (form : ℕ) (ps : List Procedure) (arrays types : List ℕ) (result : ℕ) (bounds : List ConstantLoop) (pc rc : Bool) (p : ℕ) where
  pub assign_rules : (x : ℕ) (e : Expression)
      → (statement_label_faults form ps arrays types result bounds pc rc p (assign x e) ≡ [])
      → (type_secret (get_or types x 0) ≡ false → secret_in types arrays e ≡ false) × (label_faults types arrays bounds (pc || rc) e ≡ [])
  unfolding statement_label_faults
  assign_rules x e h =
      let k : (fault_if ((secret_in types arrays e || (pc || rc)) && not (type_secret (get_or types x 0))) 9 p ≡ []) = search nil_left in (
        λ g. flow (secret_in types arrays e) (pc || rc) (type_secret (get_or types x 0))
            (kept ((secret_in types arrays e || (pc || rc)) && not (type_secret (get_or types x 0))) 9 p k) g,
        search (nil_left, nil_right),
      )

  pub store_rules : (a : ℕ) (i e : Expression)
      → (statement_label_faults form ps arrays types result bounds pc rc p (store a i e) ≡ [])
      → (array_secret (get_or arrays a 0) ≡ false → secret_in types arrays e ≡ false) × (secret_in types arrays i ≡ false)
      × (label_faults types arrays bounds (pc || rc) i ≡ []) × (label_faults types arrays bounds (pc || rc) e ≡ [])
  unfolding statement_label_faults
  store_rules a i e h =
      let k : (fault_if ((secret_in types arrays e || (pc || rc)) && not (array_secret (get_or arrays a 0))) 9 p ≡ []) = search nil_left in
      let j : (fault_if (secret_in types arrays i) 10 (place_of i) ≡ []) = search (nil_left, nil_right) in (
        λ g. flow (secret_in types arrays e) (pc || rc) (array_secret (get_or arrays a 0))
            (kept ((secret_in types arrays e || (pc || rc)) && not (array_secret (get_or arrays a 0))) 9 p k) g,
        kept (secret_in types arrays i) 10 (place_of i) j,
        search (nil_left, nil_right),
        search (nil_left, nil_right),
      )

  -- in form 1 no condition is secret
  pub conditional_rules : (c : Expression) (a b : Block) → eqb form 1 ≡ true
      → (statement_label_faults form ps arrays types result bounds pc rc p (conditional c a b) ≡ [])
      → (secret_in types arrays c ≡ false) × (label_faults types arrays bounds (pc || rc) c ≡ [])
      × (block_label_faults form ps arrays types result bounds (pc || secret_in types arrays c) rc a ≡ [])
      × (block_label_faults form ps arrays types result bounds (pc || secret_in types arrays c) rc b ≡ [])
  unfolding statement_label_faults
  conditional_rules c a b one h =
      let k : (fault_if (eqb form 1 && secret_in types arrays c) 13 p ≡ []) = search nil_left in (
        both_tests (eqb form 1) (secret_in types arrays c) one (kept (eqb form 1 && secret_in types arrays c) 13 p k),
        search (nil_left, nil_right),
        search (nil_left, nil_right),
        search (nil_left, nil_right),
      )

  pub loop_rules : (x : ℕ) (f t : Expression) (b : Block)
      → (statement_label_faults form ps arrays types result bounds pc rc p (loop x f t b) ≡ [])
      → (loop_bound_faults types arrays bounds (pc || rc) f ≡ []) × (loop_bound_faults types arrays bounds (pc || rc) t ≡ [])
      × (block_label_faults form ps arrays types result (bounds_inside bounds x f t) pc (rc_after_block types arrays pc rc b) b ≡ [])
  unfolding statement_label_faults
  loop_rules x f t b h = (search nil_left, search (nil_left, nil_right), search (nil_left, nil_right))

  pub return_rules : (e : Expression)
      → (statement_label_faults form ps arrays types result bounds pc rc p (return e) ≡ [])
      → (type_secret result ≡ false → secret_in types arrays e ≡ false) × (label_faults types arrays bounds (pc || rc) e ≡ [])
  unfolding statement_label_faults
  return_rules e h =
      let k : (fault_if ((secret_in types arrays e || (pc || rc)) && not (type_secret result)) 9 p ≡ []) = search nil_left in (
        λ g. flow (secret_in types arrays e) (pc || rc) (type_secret result)
            (kept ((secret_in types arrays e || (pc || rc)) && not (type_secret result)) 9 p k) g,
        search (nil_left, nil_right),
      )

  pub call_rules : (f x : ℕ) (es : List Expression)
      → (statement_label_faults form ps arrays types result bounds pc rc p (call f x es) ≡ [])
      → (type_secret (get_or types x 0) ≡ false → type_secret (procedure_at ps f).result ≡ false)
      × (argument_label_faults types arrays bounds (pc || rc) (procedure_at ps f).types 0 es ≡ [])
  unfolding statement_label_faults
  call_rules f x es h =
      let k : (fault_if ((type_secret (procedure_at ps f).result || (pc || rc)) && not (type_secret (get_or types x 0))) 9 p ≡ [])
      = search nil_left in (
        λ g. flow (type_secret (procedure_at ps f).result) (pc || rc) (type_secret (get_or types x 0))
            (kept ((type_secret (procedure_at ps f).result || (pc || rc)) && not (type_secret (get_or types x 0))) 9 p k) g,
        search (nil_left, nil_right),
      )

  pub step_rules : (s : Statement) (b : Block)
      → (block_label_faults form ps arrays types result bounds pc rc (sequence p s b) ≡ [])
      → (statement_label_faults form ps arrays types result bounds pc rc p s ≡ [])
      × (block_label_faults form ps arrays types result bounds pc (rc_after types arrays pc rc s) b ≡ [])
  unfolding block_label_faults
  step_rules s b h = (search nil_left, search (nil_left, nil_right))
