-- The marks that a procedure's body begins with: each for's variable is marked as a loop variable outside its fors. Assumes nothing.
use Rattle.std.specs.Prelude.{◌≡◌, refl, true, List, [], ℕ, ◌<◌, ◌≤◌, leb, length, get_or, set}
use Rattle.std.proofs.Common.{◌∙◌, arith, length-set, get_or-set_same, leb-false}
use Rattle.definitions.specs.Image.{Statement, assign, store, conditional, loop, return, call, Block, done, sequence}
use Rattle.definitions.specs.Image.{Procedure}
use Rattle.definitions.specs.Sorts.{outside, inside, mark_statement, mark_block, statement_sort_faults, block_sort_faults}
use Rattle.laws.specs.Tests.{kept, empties}
use Rattle.preservation.specs.Rules.{marked_statement, marked_block, set_either}

mutual
  unfolding mark_statement mark_block

  pub mark_length : (s : Statement) (m : List ℕ) → length (mark_statement s m) ≡ length m
  mark_length (assign x e) m = refl
  mark_length (store a i e) m = refl
  mark_length (conditional c a b) m = mark_length_block b (mark_block a m) ∙ mark_length_block a m
  mark_length (loop x f t b) m = mark_length_block b (set m x outside) ∙ length-set m x outside
  mark_length (return e) m = refl
  mark_length (call f x es) m = refl

  pub mark_length_block : (b : Block) (m : List ℕ) → length (mark_block b m) ≡ length m
  mark_length_block done m = refl
  mark_length_block (sequence l s b) m = mark_length_block b (mark_statement s m) ∙ mark_length s m

-- a variable that is marked stays so
mutual
  unfolding mark_statement mark_block

  pub mark_stays : (s : Statement) (m : List ℕ) (x : ℕ) → get_or m x 0 ≡ outside → get_or (mark_statement s m) x 0 ≡ outside
  mark_stays (assign y e) m x h = h
  mark_stays (store a i e) m x h = h
  mark_stays (conditional c a b) m x h = mark_stays_block b (mark_block a m) x (mark_stays_block a m x h)
  mark_stays (loop y f t b) m x h = mark_stays_block b (set m y outside) x (set_either m y outside x (λ n. n ≡ outside) refl h)
  mark_stays (return e) m x h = h
  mark_stays (call f y es) m x h = h

  pub mark_stays_block : (b : Block) (m : List ℕ) (x : ℕ) → get_or m x 0 ≡ outside → get_or (mark_block b m) x 0 ≡ outside
  mark_stays_block done m x h = h
  mark_stays_block (sequence l s b) m x h = mark_stays_block b (mark_statement s m) x (mark_stays s m x h)

module _ (ps : List Procedure) (parameters : ℕ) (types : List ℕ) (result arrays : ℕ) (last : List ℕ) where
  mutual
    unfolding mark_statement mark_block marked_statement marked_block statement_sort_faults block_sort_faults

    -- marks in which all that a statement marks is marked, for a statement that names only variables there are
    pub mark_marks : (s : Statement) (m marks : List ℕ) (l : ℕ) → length types ≤ length m → ((x : ℕ) → get_or (mark_statement s m) x 0 ≡ outside → get_or last x 0 ≡ outside)
        → statement_sort_faults ps parameters types result arrays marks l s ≡ [] → marked_statement last s ≡ true
    mark_marks (assign x e) m marks l n h f = refl
    mark_marks (store a i e) m marks l n h f = refl
    mark_marks (conditional c a b) m marks l n h f =
        rw (mark_marks_block a m marks n (λ x q. h x (mark_stays_block b (mark_block a m) x q)) (search empties))
        (mark_marks_block b (mark_block a m) marks (let e = mark_length_block a m in omega arith) h (search empties))
    mark_marks (loop x f t b) m marks l n h g =
        let i : x < length types = leb-false (length types) x (kept (leb (length types) x) 6 l (search empties)) in
        let q = h x (mark_stays_block b (set m x outside) x (get_or-set_same m x outside 0 (omega arith))) in
        rw q (mark_marks_block b (set m x outside) (set marks x inside) (let e = length-set m x outside in omega arith) h (search empties))
    mark_marks (return e) m marks l n h f = refl
    mark_marks (call f x es) m marks l n h g = refl

    pub mark_marks_block : (b : Block) (m marks : List ℕ) → length types ≤ length m → ((x : ℕ) → get_or (mark_block b m) x 0 ≡ outside → get_or last x 0 ≡ outside)
        → block_sort_faults ps parameters types result arrays marks b ≡ [] → marked_block last b ≡ true
    mark_marks_block done m marks n h f = refl
    mark_marks_block (sequence l s b) m marks n h f =
        rw (mark_marks s m marks l n (λ x q. h x (mark_stays_block b (mark_statement s m) x q)) (search empties))
        (mark_marks_block b (mark_statement s m) marks (let e = mark_length s m in omega arith) h (search empties))
