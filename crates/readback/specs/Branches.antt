-- Loops and ifs without a fault are compiled to good ones, where their blocks are. Assumes nothing.
use Prim.Native.Nat.{ℕ, ◌+◌, ◌<◌, max}
use Rattle.std.proofs.Math.Bool.{Bool, false}
use Rattle.std.specs.Prelude.{true, ◌&&◌, ◌||◌, not, List, [], ◌++◌, ◌≡◌, ltb, leb, get_or, set}
use Rattle.std.proofs.Math.Path.{refl}
use Rattle.std.proofs.Common.{sym, ◌∙◌, arith}
use Rattle.std.proofs.Math.Dec.{eqb}
use Rattle.std.proofs.Math.ListN.{length}
use borrow.Author.Tests.{leb-false}
use Rattle.definitions.specs.Choice.{pick}
use Rattle.definitions.specs.declared.ConstantLoop.{ConstantLoop}
use Rattle.definitions.specs.Operators.{word_sort, boolean_sort}
use Rattle.definitions.specs.Image.{type_secret, type_sort, Expression, variable, unary, place_of, conditional, loop}
use Rattle.definitions.specs.Image.{Block}
use Rattle.definitions.specs.Faults.{fault_if}
use Rattle.definitions.specs.Sorts.{sort_in, inside, operand_faults, loop_fault, statement_sort_faults, block_sort_faults}
use Rattle.definitions.specs.Labels.{secret_in, is_constant, label_faults, secret_fault, loop_bound_faults, bounds_inside}
use Rattle.definitions.specs.Labels.{statement_label_faults, block_label_faults, rc_after, rc_after_block}
use Rattle.definitions.specs.Compiling.{secret_boolean, renamed, moved, act, statement_nesting, block_nesting}
use Rattle.definitions.specs.Compiling.{statement_needs, block_needs, compiled_if, compiled_statement, compiled_block}
use Rattle.laws.specs.Tests.{false_true, or_fails_left, or_fails_right, or_left, or_right, nil_left, nil_right, kept}
use Rattle.statements.specs.Limits.{FitsExpression}
use Rattle.readback.specs.Good.{GoodExpression, good_unary, good_conditional, good_loop, good_done, good_step}
use Rattle.readback.specs.Renaming.{Marked, marked_set}
use Rattle.readback.specs.Setting.{rc_block_stays, Setting, inside_room, sort_moved, secret_moved}
use Rattle.readback.specs.Setting.{good_moved, Slot, Deferred, Pairs, Good', slot_sort, followed, slot_good, slot_assign}
use Rattle.readback.specs.Setting.{act_good, under_good, operand_good, StatementGood, BlockGood, keeps}

module _ (here : Setting) where
  open here use {form, ps, arrays, types, types', parameters, parameters', result, first, rv, temporary, typed, few, local}

  -- a bound of a for
  bound_good :
      {l : ℕ} {e : Expression} → FitsExpression l e → (marks marks' : List ℕ) (bounds : List ConstantLoop) (context : Bool) → Marked first (length types) marks marks'
      → operand_faults types (length arrays) marks word_sort e ≡ [] → loop_bound_faults types arrays bounds context e ≡ []
      → GoodExpression types arrays marks e × (sort_in types e ≡ word_sort) × (secret_in types arrays e ≡ false)
  bound_good {e = e} fit marks marks' bounds context m s l =
      let z = operand_good here marks marks' m fit bounds context word_sort refl s (nil_left (label_faults types arrays bounds context e) _ l) in (
        z.0,
        z.1,
        kept (secret_in types arrays e) 10 (place_of e)
            (nil_left (secret_fault types arrays e) _ (nil_right (label_faults types arrays bounds context e)
            (secret_fault types arrays e ++ fault_if (context && not (is_constant e)) 11 (place_of e)) l)),
      )

  live_inside :
      (b : Block) (pc rc : Bool) → (rc_after_block types arrays pc rc b ≡ true → Deferred here) → rc_after_block types arrays pc (rc_after_block types arrays pc rc b) b ≡ true
      → Deferred here
  live_inside b pc rc d = go (rc_after_block types arrays pc rc b) refl
    where
      again : (rc' : Bool) → rc_after_block types arrays pc rc' b ≡ false → rc_after_block types arrays pc false b ≡ true → ⊥
      again true e h = false_true (sym e ∙ rc_block_stays types arrays b pc)
      again false e h = false_true (sym e ∙ h)

      go : (r : Bool) → rc_after_block types arrays pc rc b ≡ r → rc_after_block types arrays pc r b ≡ true → Deferred here
      go true e h = d e
      go false e h = absurd (again rc e h)

  pub loop_good : {l l' : ℕ} (x : ℕ) (f t : Expression) (b : Block) → FitsExpression l f → FitsExpression l' t → BlockGood here b → StatementGood here (loop x f t b)
  unfolding statement_sort_faults statement_label_faults compiled_statement statement_nesting statement_needs rc_after
  loop_good x f t b fit fit' inner pc arm rc k marks marks' bounds p m a d pairs temporaries s l =
      let f₆ = fault_if (leb (length types) x) 6 p in
      let f₈ = loop_fault types parameters marks x p in
      let ff = operand_faults types (length arrays) marks word_sort f in
      let ft = operand_faults types (length arrays) marks word_sort t in
      let fb = block_sort_faults ps parameters types result (length arrays) (set marks x inside) b in
      let lf = loop_bound_faults types arrays bounds (pc || rc) f in
      let lt = loop_bound_faults types arrays bounds (pc || rc) t in
      let lb = block_label_faults form ps arrays types result (bounds_inside bounds x f t) pc (rc_after_block types arrays pc rc b) b in
      let s₁ = nil_right f₆ (f₈ ++ (ff ++ (ft ++ fb))) s in
      let s₂ = nil_right f₈ (ff ++ (ft ++ fb)) s₁ in
      let s₃ = nil_right ff (ft ++ fb) s₂ in
      let l₁ = nil_right lf (lt ++ lb) l in
      let z = bound_good fit marks marks' bounds (pc || rc) m (nil_left ff (ft ++ fb) s₂) (nil_left lf (lt ++ lb) l) in
      let w = bound_good fit' marks marks' bounds (pc || rc) m (nil_left ft fb s₃) (nil_left lt lb l₁) in
      let h = leb-false (length types) x (kept (leb (length types) x) 6 p (nil_left f₆ (f₈ ++ (ff ++ (ft ++ fb))) s)) in
      let rule = kept (ltb x parameters || (type_secret (get_or types x 0) || (eqb (type_sort (get_or types x 0)) boolean_sort || eqb (get_or marks x 0) inside))) 8 p
      (nil_left f₈ (ff ++ (ft ++ fb)) s₁) in
      good_step (good_loop (inside_room here x h) (renamed_rule h rule) (good_moved here m z.0) (good_moved here m w.0) (sort_moved here z.0 ∙ z.1) (sort_moved here w.0 ∙ w.1)
      (secret_moved here z.0 ∙ z.2) (secret_moved here w.0 ∙ w.2)
      (inner pc arm (rc_after_block types arrays pc rc b) k (set marks x inside) (set marks' (renamed first x) inside) (bounds_inside bounds x f t)
      (marked_set few m x inside h) a (live_inside b pc rc d) pairs temporaries (nil_right ft fb s₃) (nil_right lt lb l₁)))
      good_done
    where
      renamed_rule : x < length types → (ltb x parameters || (type_secret (get_or types x 0) || (eqb (type_sort (get_or types x 0)) boolean_sort || eqb (get_or marks x 0) inside))) ≡ false
          → (ltb (renamed first x) parameters' || (type_secret (get_or types' (renamed first x) 0) || (eqb (type_sort (get_or types' (renamed first x) 0)) boolean_sort || eqb (get_or marks' (renamed first x) 0) inside))) ≡ false
      renamed_rule h r =
          let rest = type_secret (get_or types x 0) || (eqb (type_sort (get_or types x 0)) boolean_sort || eqb (get_or marks x 0) inside) in
          rw (local x h (or_fails_left (ltb x parameters) rest r), typed x h, m.old x h) (or_fails_right (ltb x parameters) rest r)

  -- the arms of an if, compiled for any arm variable and pairs that are there
  abbrev Ready : Block → Bool → Bool → List ℕ → Type 0
  Ready b pc rc marks' =
      (arm k : ℕ) → (pc ≡ true → Slot here arm secret_boolean) → Pairs here k (block_nesting arrays types b)
      → Good' here marks' (compiled_block ps arrays types first rv temporary b pc arm rc k)

  -- an if and its arms, compiled
  abbrev code : Bool → Bool → ℕ → Bool → ℕ → Expression → Block → Block → Block
  code s pc arm rc k c x y =
      compiled_if s pc arm rc (rv + 1) k (moved first c) (λ q v n. compiled_block ps arrays types first rv temporary x q v rc n)
      (λ q v n. compiled_block ps arrays types first rv temporary y q v rc n)

  secret_if :
      (pc : Bool) (arm : ℕ) (rc : Bool) (k : ℕ) (c : Expression) (x y : Block) (marks marks' : List ℕ) → Marked first (length types) marks marks'
      → (pc ≡ true → Slot here arm secret_boolean) → (rc ≡ true → Deferred here)
      → Pairs here k (1 + max (block_nesting arrays types x) (block_nesting arrays types y)) → GoodExpression types arrays marks c → sort_in types c ≡ boolean_sort
      → Ready x true rc marks' → Ready y true rc marks' → Good' here marks' (code true pc arm rc k c x y)
  unfolding compiled_if sort_in
  secret_if pc arm rc k c x y marks marks' m a d pairs g q rx ry =
      let t = pairs k (omega arith) (omega arith) in
      let e = pairs (k + 1) (omega arith) (omega arith) in
      let active = act_good here marks marks' m pc arm rc a d in
      let u = under_good here marks marks' m (pc || rc) (act pc arm rc (rv + 1)) (moved first c) active (good_moved here m g) (sort_moved here g ∙ q) in
      let n = under_good here marks marks' m (pc || rc) (act pc arm rc (rv + 1)) (unary 0 0 (variable 0 k)) active
      (good_unary {o = 0} (omega arith) (slot_good here marks marks' m k secret_boolean t) (slot_sort here k secret_boolean t)) refl in
      good_step (slot_assign here marks marks' m k secret_boolean t refl u.0 u.1)
      (good_step (slot_assign here marks marks' m (k + 1) secret_boolean e refl n.0 n.1)
      (followed here (rx k (k + 2) (λ _. t) (λ z h l. pairs z (omega arith) (omega arith)))
      (ry (k + 1) (k + 2) (λ _. e) (λ z h l. pairs z (omega arith) (omega arith)))))

  public_if :
      (pc : Bool) (arm : ℕ) (rc : Bool) (k : ℕ) (c : Expression) (x y : Block) (marks marks' : List ℕ) → Marked first (length types) marks marks'
      → (pc ≡ true → Slot here arm secret_boolean) → Pairs here k (max (block_nesting arrays types x) (block_nesting arrays types y))
      → GoodExpression types arrays marks c → sort_in types c ≡ boolean_sort → secret_in types arrays c ≡ false → Ready x pc rc marks' → Ready y pc rc marks'
      → Good' here marks' (code false pc arm rc k c x y)
  unfolding compiled_if
  public_if pc arm rc k c x y marks marks' m a pairs g q public rx ry =
      good_step (good_conditional (good_moved here m g) (sort_moved here g ∙ q) (secret_moved here g ∙ public) (rx arm k a (λ z h l. pairs z h (omega arith)))
      (ry arm k a (λ z h l. pairs z h (omega arith)))) good_done

  either_if :
      (pc s : Bool) (arm : ℕ) (rc : Bool) (k : ℕ) (c : Expression) (x y : Block) (marks marks' : List ℕ) → Marked first (length types) marks marks'
      → (pc ≡ true → Slot here arm secret_boolean) → (rc ≡ true → Deferred here)
      → Pairs here k (pick s 1 0 + max (block_nesting arrays types x) (block_nesting arrays types y)) → GoodExpression types arrays marks c
      → sort_in types c ≡ boolean_sort → secret_in types arrays c ≡ s → Ready x (pc || s) rc marks' → Ready y (pc || s) rc marks'
      → Good' here marks' (code s pc arm rc k c x y)
  either_if true true arm rc k c x y marks marks' m a d pairs g q e rx ry = secret_if true arm rc k c x y marks marks' m a d pairs g q rx ry
  either_if false true arm rc k c x y marks marks' m a d pairs g q e rx ry = secret_if false arm rc k c x y marks marks' m a d pairs g q rx ry
  either_if true false arm rc k c x y marks marks' m a d pairs g q e rx ry =
      public_if true arm rc k c x y marks marks' m a (λ z h l. pairs z h (omega arith)) g q e rx ry
  either_if false false arm rc k c x y marks marks' m a d pairs g q e rx ry =
      public_if false arm rc k c x y marks marks' m a (λ z h l. pairs z h (omega arith)) g q e rx ry

  pub conditional_good : {l : ℕ} (c : Expression) (x y : Block) → FitsExpression l c → BlockGood here x → BlockGood here y → StatementGood here (conditional c x y)
  unfolding statement_sort_faults statement_label_faults compiled_statement statement_nesting statement_needs rc_after
  conditional_good c x y fit ix iy pc arm rc k marks marks' bounds p m a d pairs temporaries s l =
      let fc = operand_faults types (length arrays) marks boolean_sort c in
      let fx = block_sort_faults ps parameters types result (length arrays) marks x in
      let fy = block_sort_faults ps parameters types result (length arrays) marks y in
      let f₁₃ = fault_if (eqb form 1 && secret_in types arrays c) 13 p in
      let lc = label_faults types arrays bounds (pc || rc) c in
      let lx = block_label_faults form ps arrays types result bounds (pc || secret_in types arrays c) rc x in
      let ly = block_label_faults form ps arrays types result bounds (pc || secret_in types arrays c) rc y in
      let s₁ = nil_right fc (fx ++ fy) s in
      let l₁ = nil_right f₁₃ (lc ++ (lx ++ ly)) l in
      let l₂ = nil_right lc (lx ++ ly) l₁ in
      let z = operand_good here marks marks' m fit bounds (pc || rc) boolean_sort refl (nil_left fc (fx ++ fy) s) (nil_left lc (lx ++ ly) l₁) in
      let rx = rc_after_block types arrays (pc || secret_in types arrays c) rc x in
      let ry = rc_after_block types arrays (pc || secret_in types arrays c) rc y in
      let nx : ℕ → Bool = λ t. block_needs ps arrays types t (pc || secret_in types arrays c) rc x in
      let ny : ℕ → Bool = λ t. block_needs ps arrays types t (pc || secret_in types arrays c) rc y in
      either_if pc (secret_in types arrays c) arm rc k c x y marks marks' m a (keeps here (conditional c x y) pc rc d) pairs z.0 z.1 refl
      (λ arm' k' a' pairs'. ix (pc || secret_in types arrays c) arm' rc k' marks marks' bounds m a' (λ e. d (or_left rx ry e)) pairs'
      (λ t h e. temporaries t h (or_left (nx t) (ny t) e)) (nil_left fx fy s₁) (nil_left lx ly l₂))
      (λ arm' k' a' pairs'. iy (pc || secret_in types arrays c) arm' rc k' marks marks' bounds m a' (λ e. d (or_right rx ry e)) pairs'
      (λ t h e. temporaries t h (or_right (nx t) (ny t) e)) (nil_right fx fy s₁) (nil_right lx ly l₂))
