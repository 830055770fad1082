-- Assignments, stores and returns without a fault are compiled to good ones. Assumes nothing.
use Rattle.std.specs.Prelude.{ℕ, ◌+◌, ◌<◌, Bool, ◌&&◌, ◌||◌, List, ◌++◌, ◌≡◌, leb, get_or}
use Rattle.std.proofs.Math.Bool.{true, false, not}
use Rattle.std.proofs.Math.Path.{refl, sym}
use Rattle.std.proofs.Common.{◌∙◌, arith}
use Rattle.std.proofs.Math.Dec.{eqb}
use Rattle.std.proofs.Math.ListN.{length}
use borrow.Author.Tests.{leb-false, not-false}
use Rattle.definitions.specs.Operators.{word_sort, boolean_sort}
use Rattle.definitions.specs.Image.{array_secret, type_secret, type_sort, Expression, variable, cell, place_of, assign}
use Rattle.definitions.specs.Image.{store, return}
use Rattle.definitions.specs.Faults.{fault_if}
use Rattle.definitions.specs.Sorts.{sort_of, sort_in, ordinary, operand_faults, statement_sort_faults}
use Rattle.definitions.specs.Labels.{secret_in, label_faults, secret_fault, index_faults, statement_label_faults, rc_after}
use Rattle.definitions.specs.Compiling.{secret_boolean, renamed, moved, act, masked, one, compiled_return}
use Rattle.definitions.specs.Compiling.{compiled_statement}
use Rattle.statements.specs.Limits.{FitsExpression}
use Rattle.laws.specs.Tests.{nil_left, nil_right, kept}
use Rattle.readback.specs.Clean.{sink, source}
use Rattle.readback.specs.Good.{GoodExpression, good_boolean, good_cell, good_select, good_assign, good_store}
use Rattle.readback.specs.Good.{good_return, good_done, good_step}
use Rattle.readback.specs.Source.{type_known, variable_known}
use Rattle.readback.specs.Renaming.{Marked}
use Rattle.readback.specs.Setting.{Setting, inside_room, variable_sort, sort_moved, secret_moved, good_moved}
use Rattle.readback.specs.Setting.{Deferred, Good', slot_sort, old_mark, old_good, slot_good, slot_assign}
use Rattle.readback.specs.Setting.{act_good, masked_good, operand_good, masked_sort, masked_flow, StatementGood}
use Rattle.readback.specs.Setting.{keeps}

module _ (here : Setting) where
  open here use {arrays, types, types', result, first, rv, typed}

  pub assign_good : {l : ℕ} (x : ℕ) (e : Expression) → FitsExpression l e → StatementGood here (assign x e)
  unfolding statement_sort_faults statement_label_faults compiled_statement sort_in
  assign_good x e fit pc arm rc k marks marks' bounds p m a d pairs temporaries s l =
      let f₆ = fault_if (leb (length types) x) 6 p in
      let f₈ = fault_if (not (eqb (get_or marks x 0) ordinary)) 8 p in
      let fo = operand_faults types (length arrays) marks (sort_of types x) e in
      let f₉ = fault_if ((secret_in types arrays e || (pc || rc)) && not (type_secret (get_or types x 0))) 9 p in
      let h = leb-false (length types) x (kept (leb (length types) x) 6 p (nil_left f₆ (f₈ ++ fo) s)) in
      let s₁ = nil_right f₆ (f₈ ++ fo) s in
      let o = not-false (eqb (get_or marks x 0) ordinary) (kept (not (eqb (get_or marks x 0) ordinary)) 8 p (nil_left f₈ fo s₁)) in
      let z = operand_good here marks marks' m fit bounds (pc || rc) (sort_of types x) (variable_known types x h) (nil_right f₈ fo s₁)
      (nil_right f₉ (label_faults types arrays bounds (pc || rc) e) l) in
      let flow = kept ((secret_in types arrays e || (pc || rc)) && not (type_secret (get_or types x 0))) 9 p (nil_left f₉ (label_faults types arrays bounds (pc || rc) e) l) in
      go h o z.0 z.1 flow
    where
      go : x < length types → eqb (get_or marks x 0) ordinary ≡ true → GoodExpression types arrays marks e → sort_in types e ≡ sort_of types x
          → ((secret_in types arrays e || (pc || rc)) && not (type_secret (get_or types x 0))) ≡ false
          → Good' here marks' (one (assign (renamed first x) (masked (pc || rc) (act pc arm rc (rv + 1)) (moved first e) (variable 0 (renamed first x)))))
      go h o g q flow =
          good_step (good_assign (inside_room here x h) (old_mark here marks marks' m x h o)
          (masked_good here marks marks' m (pc || rc) (act pc arm rc (rv + 1)) (moved first e) (variable 0 (renamed first x))
          (act_good here marks marks' m pc arm rc a (keeps here (assign x e) pc rc d)) (good_moved here m g)
          (old_good here marks marks' m x h o)
          (variable_sort here x h ∙ sym q ∙ sym (sort_moved here g)))
          (masked_sort here (pc || rc) (act pc arm rc (rv + 1)) (moved first e) (variable 0 (renamed first x)) ∙ sort_moved here g ∙ q ∙ sym (variable_sort here x h))
          (masked_flow here (pc || rc) (type_secret (get_or types' (renamed first x) 0)) (secret_in types arrays e) (act pc arm rc (rv + 1)) (moved first e) (variable 0 (renamed first x))
          (secret_moved here g) (rw (typed x h) flow)))
          good_done

  pub store_good : {l l' : ℕ} (y : ℕ) (i e : Expression) → FitsExpression l i → FitsExpression l' e → StatementGood here (store y i e)
  unfolding statement_sort_faults statement_label_faults compiled_statement sort_in
  store_good y i e fit fit' pc arm rc k marks marks' bounds p m a d pairs temporaries s l =
      let f₆ = fault_if (leb (length arrays) y) 6 p in
      let fi = operand_faults types (length arrays) marks word_sort i in
      let fe = operand_faults types (length arrays) marks word_sort e in
      let f₉ = fault_if ((secret_in types arrays e || (pc || rc)) && not (array_secret (get_or arrays y 0))) 9 p in
      let li = label_faults types arrays bounds (pc || rc) i in
      let lx = index_faults types arrays bounds (pc || rc) y i in
      let lₑ = label_faults types arrays bounds (pc || rc) e in
      let s₁ = nil_right f₆ (fi ++ fe) s in
      let l₁ = nil_right f₉ (li ++ (lx ++ lₑ)) l in
      let l₂ = nil_right li (lx ++ lₑ) l₁ in
      let z = operand_good here marks marks' m fit bounds (pc || rc) word_sort refl (nil_left fi fe s₁) (nil_left li (lx ++ lₑ) l₁) in
      let w = operand_good here marks marks' m fit' bounds (pc || rc) word_sort refl (nil_right fi fe s₁) (nil_right lx lₑ l₂) in
      let public = kept (secret_in types arrays i) 10 (place_of i) (nil_left (secret_fault types arrays i) _ (nil_left lx lₑ l₂)) in
      go (leb-false (length arrays) y (kept (leb (length arrays) y) 6 p (nil_left f₆ (fi ++ fe) s))) z.0 z.1 public w.0 w.1
      (kept ((secret_in types arrays e || (pc || rc)) && not (array_secret (get_or arrays y 0))) 9 p (nil_left f₉ (li ++ (lx ++ lₑ)) l))
    where
      go : y < length arrays → GoodExpression types arrays marks i → sort_in types i ≡ word_sort → secret_in types arrays i ≡ false
          → GoodExpression types arrays marks e → sort_in types e ≡ word_sort → ((secret_in types arrays e || (pc || rc)) && not (array_secret (get_or arrays y 0))) ≡ false
          → Good' here marks' (one (store y (moved first i) (masked (pc || rc) (act pc arm rc (rv + 1)) (moved first e) (cell 0 y (moved first i)))))
      go h g q public g' q' flow =
          good_step (good_store h (good_moved here m g)
          (masked_good here marks marks' m (pc || rc) (act pc arm rc (rv + 1)) (moved first e) (cell 0 y (moved first i))
          (act_good here marks marks' m pc arm rc a (keeps here (store y i e) pc rc d)) (good_moved here m g')
          (good_cell h (good_moved here m g) (sort_moved here g ∙ q) (secret_moved here g ∙ public)) (sym (sort_moved here g' ∙ q')))
          (sort_moved here g ∙ q)
          (masked_sort here (pc || rc) (act pc arm rc (rv + 1)) (moved first e) (cell 0 y (moved first i)) ∙ sort_moved here g' ∙ q')
          (secret_moved here g ∙ public)
          (masked_flow here (pc || rc) (array_secret (get_or arrays y 0)) (secret_in types arrays e) (act pc arm rc (rv + 1)) (moved first e) (cell 0 y (moved first i))
          (secret_moved here g') flow))
          good_done

  -- a return that is deferred, or not
  return_parts :
      (b : Bool) (act' e : Expression) (marks marks' : List ℕ) → Marked first (length types) marks marks' → (b ≡ true → Deferred here)
      → (b ≡ true → GoodExpression types' arrays marks' act' × (sort_in types' act' ≡ boolean_sort)) → GoodExpression types arrays marks e → sort_in types e ≡ type_sort result
      → ((secret_in types arrays e || b) && not (type_secret result)) ≡ false → Good' here marks' (compiled_return b act' rv (moved first e))
  unfolding compiled_return sort_in
  return_parts true act' e marks marks' m d h g q flow =
      let r = (d refl).0 in
      let t = (d refl).1 in
      good_step
      (slot_assign here marks marks' m rv result r (not-false (type_secret result) (sink (secret_in types arrays e) (not (type_secret result)) flow))
      (good_select (h refl).0 (good_moved here m g) (slot_good here marks marks' m rv result r) (h refl).1 (slot_sort here rv result r ∙ sym (sort_moved here g ∙ q))) (sort_moved here g ∙ q))
      (good_step (slot_assign here marks marks' m (rv + 1) secret_boolean t refl
      (good_select (h refl).0 (good_boolean {v = 0} (omega arith)) (slot_good here marks marks' m (rv + 1) secret_boolean t) (h refl).1
      (slot_sort here (rv + 1) secret_boolean t)) refl) good_done)
  return_parts false act' e marks marks' m d h g q flow =
      good_step (good_return (good_moved here m g) (sort_moved here g ∙ q) (rw (secret_moved here g) (source (secret_in types arrays e) (not (type_secret result)) flow))) good_done

  pub return_good : {l : ℕ} (e : Expression) → FitsExpression l e → StatementGood here (return e)
  unfolding statement_sort_faults statement_label_faults compiled_statement rc_after
  return_good e fit pc arm rc k marks marks' bounds p m a d pairs temporaries s l =
      let f₉ = fault_if ((secret_in types arrays e || (pc || rc)) && not (type_secret result)) 9 p in
      let lₑ = label_faults types arrays bounds (pc || rc) e in
      let z = operand_good here marks marks' m fit bounds (pc || rc) (type_sort result) (type_known result) s (nil_right f₉ lₑ l) in
      return_parts (pc || rc) (act pc arm rc (rv + 1)) e marks marks' m d (act_good here marks marks' m pc arm rc a (keeps here (return e) pc rc d)) z.0 z.1
      (kept ((secret_in types arrays e || (pc || rc)) && not (type_secret result)) 9 p (nil_left f₉ lₑ l))
