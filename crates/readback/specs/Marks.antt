-- The marks of a compiled body are those of its source, renumbered. Assumes nothing.
use Rattle.std.specs.Prelude.{ℕ, zero, suc, ◌+◌, ◌<◌, Bool, ◌||◌, List, [], ◌++◌, ◌≡◌, refl, leb, length, get_or, set, replicate}
use Rattle.std.proofs.Math.Bool.{true, false}
use Rattle.std.proofs.Common.{sym, ◌∙◌, leb-false}
use Rattle.std.proofs.lemmas.List.{length-replicate}
use Rattle.definitions.specs.Operators.{word_sort, boolean_sort}
use Rattle.definitions.specs.Image.{Expression, variable, Statement, assign, store, conditional, loop, return, call}
use Rattle.definitions.specs.Image.{Block, done, sequence, Procedure, guarded, procedure_at, type_sort}
use Rattle.definitions.specs.Faults.{fault_if}
use Rattle.definitions.specs.Sorts.{outside, inside, ordinary, operand_faults, loop_fault, mark_statement, mark_block}
use Rattle.definitions.specs.Sorts.{statement_sort_faults, block_sort_faults}
use Rattle.definitions.specs.Labels.{secret_in, rc_after, rc_after_block}
use Rattle.definitions.specs.Compiling.{renamed, moved, moved_all, act, one, followed_by, ArmCode, compiled_if}
use Rattle.definitions.specs.Compiling.{compiled_return, compiled_call, compiled_statement, compiled_block, closed}
use Rattle.laws.specs.Tests.{nil_left, nil_right, kept}
use Rattle.readback.specs.Renaming.{Marked, marked_set}

pub mark_followed : (a b : Block) (marks : List ℕ) → mark_block (followed_by a b) marks ≡ mark_block b (mark_block a marks)
unfolding mark_block followed_by
mark_followed done b marks = refl
mark_followed (sequence p s a) b marks = mark_followed a b (mark_statement s marks)

pub mark_closed : (d : Bool) (rv : ℕ) (b : Block) (marks : List ℕ) → mark_block (closed d rv b) marks ≡ mark_block b marks
unfolding closed mark_block mark_statement
mark_closed true rv b marks = mark_followed b (one (return (variable 0 rv))) marks
mark_closed false rv b marks = refl

mark_return : (b : Bool) (a e : Expression) (rv : ℕ) (marks : List ℕ) → mark_block (compiled_return b a rv e) marks ≡ marks
unfolding compiled_return mark_block mark_statement
mark_return true a e rv marks = refl
mark_return false a e rv marks = refl

mark_call : (b g : Bool) (a : Expression) (k f x : ℕ) (es : List Expression) (marks : List ℕ) → mark_block (compiled_call b g a k f x es) marks ≡ marks
unfolding compiled_call mark_block mark_statement
mark_call true g a k f x es marks = refl
mark_call false g a k f x es marks = refl

module _ (ps : List Procedure) (arrays types : List ℕ) (parameters result first rv : ℕ) (temporary : ℕ → ℕ) (n : ℕ) (few : length types < 256) where
  mark_if :
      (s pc : Bool) (arm : ℕ) (rc : Bool) (live k : ℕ) (c c' : Expression) (x y : Block) (ax ay : ArmCode) (marks marks' : List ℕ)
      → ((q : Bool) (v m : ℕ) (here here' : List ℕ) → Marked first (length types) here here' → Marked first (length types) (mark_block x here) (mark_block (ax q v m) here'))
      → ((q : Bool) (v m : ℕ) (here here' : List ℕ) → Marked first (length types) here here' → Marked first (length types) (mark_block y here) (mark_block (ay q v m) here'))
      → Marked first (length types) marks marks'
      → Marked first (length types) (mark_statement (conditional c x y) marks) (mark_block (compiled_if s pc arm rc live k c' ax ay) marks')
  unfolding compiled_if mark_statement mark_block
  mark_if true pc arm rc live k c c' x y ax ay marks marks' fx fy m =
      rw (mark_followed (ax true k (k + 2)) (ay true (k + 1) (k + 2)) marks')
      (fy true (k + 1) (k + 2) (mark_block x marks) (mark_block (ax true k (k + 2)) marks') (fx true k (k + 2) marks marks' m))
  mark_if false pc arm rc live k c c' x y ax ay marks marks' fx fy m =
      fy pc arm k (mark_block x marks) (mark_block (ax pc arm k) marks') (fx pc arm k marks marks' m)

  mutual
    unfolding statement_sort_faults block_sort_faults compiled_statement compiled_block mark_statement mark_block

    pub mark_statement_lem :
        (s : Statement) (others marks marks' : List ℕ) (p : ℕ) → statement_sort_faults ps parameters types result n others p s ≡ [] → (pc : Bool) (arm : ℕ) (rc : Bool) (k : ℕ)
        → Marked first (length types) marks marks'
        → Marked first (length types) (mark_statement s marks) (mark_block (compiled_statement ps arrays types first rv temporary s pc arm rc k) marks')
    mark_statement_lem (assign x e) others marks marks' p h pc arm rc k m = m
    mark_statement_lem (store a i e) others marks marks' p h pc arm rc k m = m
    mark_statement_lem (conditional c x y) others marks marks' p h pc arm rc k m =
        let fc = operand_faults types n others boolean_sort c in
        let fx = block_sort_faults ps parameters types result n others x in
        let fy = block_sort_faults ps parameters types result n others y in
        let h₁ = nil_right fc (fx ++ fy) h in
        mark_if (secret_in types arrays c) pc arm rc (rv + 1) k c (moved first c) x y
        (λ q v i. compiled_block ps arrays types first rv temporary x q v rc i)
        (λ q v i. compiled_block ps arrays types first rv temporary y q v rc i) marks marks'
        (λ q v i here here' z. mark_block_lem x others here here' (nil_left fx fy h₁) q v rc i z)
        (λ q v i here here' z. mark_block_lem y others here here' (nil_right fx fy h₁) q v rc i z) m
    mark_statement_lem (loop x f t b) others marks marks' p h pc arm rc k m =
        let f₆ = fault_if (leb (length types) x) 6 p in
        let f₈ = loop_fault types parameters others x p in
        let ff = operand_faults types n others word_sort f in
        let ft = operand_faults types n others word_sort t in
        let fb = block_sort_faults ps parameters types result n (set others x inside) b in
        let low = leb-false (length types) x (kept (leb (length types) x) 6 p (nil_left f₆ (f₈ ++ (ff ++ (ft ++ fb))) h)) in
        mark_block_lem b (set others x inside) (set marks x outside) (set marks' (renamed first x) outside)
        (nil_right ft fb (nil_right ff (ft ++ fb) (nil_right f₈ (ff ++ (ft ++ fb)) (nil_right f₆ (f₈ ++ (ff ++ (ft ++ fb))) h)))) pc arm (rc_after_block types arrays pc rc b) k
        (marked_set few m x outside low)
    mark_statement_lem (return e) others marks marks' p h pc arm rc k m = rw (mark_return (pc || rc) (act pc arm rc (rv + 1)) (moved first e) rv marks') m
    mark_statement_lem (call f x es) others marks marks' p h pc arm rc k m =
        rw (mark_call (pc || rc) (guarded (procedure_at ps f)) (act pc arm rc (rv + 1)) (temporary (type_sort (procedure_at ps f).result)) f (renamed first x)
        (moved_all first es) marks') m

    pub mark_block_lem :
        (b : Block) (others marks marks' : List ℕ) → block_sort_faults ps parameters types result n others b ≡ [] → (pc : Bool) (arm : ℕ) (rc : Bool) (k : ℕ)
        → Marked first (length types) marks marks'
        → Marked first (length types) (mark_block b marks) (mark_block (compiled_block ps arrays types first rv temporary b pc arm rc k) marks')
    mark_block_lem done others marks marks' h pc arm rc k m = m
    mark_block_lem (sequence p s b) others marks marks' h pc arm rc k m =
        let fs = statement_sort_faults ps parameters types result n others p s in
        let fb = block_sort_faults ps parameters types result n others b in
        let c = compiled_statement ps arrays types first rv temporary s pc arm rc k in
        rw (mark_followed c (compiled_block ps arrays types first rv temporary b pc arm (rc_after types arrays pc rc s) k) marks')
        (mark_block_lem b others (mark_statement s marks) (mark_block c marks') (nil_right fs fb h) pc arm (rc_after types arrays pc rc s) k
        (mark_statement_lem s others marks marks' p (nil_left fs fb h) pc arm rc k m))

-- at the start every variable is ordinary
zeros : (n i : ℕ) → ◌≡◌ {A = ℕ} (get_or (replicate n 0) i 0) 0
zeros zero i = refl
zeros (suc n) zero = refl
zeros (suc n) (suc i) = zeros n i

pub marked_start : (first n : ℕ) → Marked first n (replicate 256 ordinary) (replicate 256 ordinary)
marked_start first n =
    record { old = λ x h. zeros 256 (renamed first x) ∙ sym (zeros 256 x); new = λ y f. zeros 256 y; size = length-replicate {A = ℕ} 256 ordinary; size' = length-replicate {A = ℕ} 256 ordinary }
