-- Calls without a fault are compiled to good ones: their arguments, the guard, the result. Assumes nothing.
use Rattle.std.specs.Prelude.{ℕ, ◌+◌, ◌%◌, ◌<◌, Bool, ◌&&◌, ◌||◌, ◌≡◌, leb, eqb, get_or}
use Rattle.std.proofs.Math.Bool.{true, false, not}
use mathlib.Core.List.{List, [], ◌∷◌, ◌++◌}
use Rattle.std.proofs.Math.Path.{refl, ap, sym}
use Rattle.std.proofs.Common.{◌∙◌, zero-add}
use native.Mathlib.Omega.{arith}
use Rattle.std.proofs.Math.Nat.{add-zero}
use Rattle.std.proofs.Math.ListN.{length, length-append}
use borrow.Author.Tests.{leb-false, not-false, eq-eqb}
use Rattle.definitions.specs.Choice.{pick}
use Rattle.definitions.specs.declared.ConstantLoop.{ConstantLoop}
use Rattle.definitions.specs.Operators.{boolean_sort}
use Rattle.definitions.specs.Image.{type_secret, type_sort, Expression, boolean, variable, select, place_of, call}
use Rattle.definitions.specs.Image.{Procedure, guarded, procedure_at}
use Rattle.definitions.specs.Faults.{fault_if}
use Rattle.definitions.specs.Sorts.{sort_of, sort_in, wrong_sort, ordinary, operand_faults, argument_faults}
use Rattle.definitions.specs.Sorts.{statement_sort_faults}
use Rattle.definitions.specs.Labels.{secret_in, label_faults, argument_label_faults, statement_label_faults, rc_after}
use Rattle.definitions.specs.Compiling.{secret_of, renamed, moved_all, act, statement_needs, compiled_call, compiled_statement}
use Rattle.laws.specs.Tests.{false_true, and_false, nil_left, nil_right, kept}
use Rattle.statements.specs.Limits.{FitsAll, fit_none, fit_more, arity_of}
use Rattle.readback.specs.Clean.{sink, source, sorts_agree}
use Rattle.readback.specs.Good.{GoodExpression, good_boolean, good_select, GoodArguments, good_none, good_more}
use Rattle.readback.specs.Good.{good_assign, good_call, good_done, good_step}
use Rattle.readback.specs.Source.{type_known, variable_known}
use Rattle.readback.specs.Renaming.{Marked}
use Rattle.readback.specs.Setting.{Callee, Setting, inside_room, variable_sort, sort_moved, secret_moved}
use Rattle.readback.specs.Setting.{good_moved, Slot, Good', slot_sort, slot_mark, old_mark, old_good, slot_good}
use Rattle.readback.specs.Setting.{act_good, operand_good, StatementGood, keeps}

-- the type word of a secret of a sort
secret_sort : (r : ℕ) → type_sort (secret_of (type_sort r)) ≡ type_sort r
secret_sort r = go (type_sort r) (omega arith)
  where
    go : (s : ℕ) → s < 2 → type_sort (secret_of s) ≡ s
    go s h = omega arith

secret_label : (s : ℕ) → type_secret (secret_of s) ≡ true
secret_label s = eq-eqb (secret_of s % 2) 1 (omega arith)

length_moved : (first : ℕ) (es : List Expression) → length (moved_all first es) ≡ length es
unfolding moved_all
length_moved first [] = refl
length_moved first (e ∷ es) = rw (length_moved first es)

module _ (here : Setting) where
  open here use {ps, ps', arrays, types, types', me, first, rv, temporary, typed, callee}

  arguments_good :
      {l : ℕ} {es : List Expression} → FitsAll l es → (marks marks' : List ℕ) (bounds : List ConstantLoop) (context : Bool) → Marked first (length types) marks marks' → (q q' : Procedure) → Callee q q'
      → (k : ℕ) → k + length es ≡ q.parameters → argument_faults types (length arrays) marks q.types k es ≡ []
      → argument_label_faults types arrays bounds context q.types k es ≡ []
      → (extra : List Expression) → GoodArguments types' arrays marks' q'.types q.parameters extra
      → GoodArguments types' arrays marks' q'.types k (moved_all first es ++ extra)
  unfolding argument_faults argument_label_faults moved_all
  arguments_good fit_none marks marks' bounds context m q q' c k n s l extra g =
      let same : k ≡ q.parameters = omega arith in rw same g
  arguments_good (fit_more {e} {es} fit fits) marks marks' bounds context m q q' c k n s l extra g =
      let fₑ = operand_faults types (length arrays) marks (sort_of q.types k) e in
      let fs = argument_faults types (length arrays) marks q.types (k + 1) es in
      let lₑ = label_faults types arrays bounds context e in
      let f₉ = fault_if (secret_in types arrays e && not (type_secret (get_or q.types k 0))) 9 (place_of e) in
      let ls = argument_label_faults types arrays bounds context q.types (k + 1) es in
      let named = c.parameters_named in
      let low : k < q.parameters = omega arith in
      let l₁ = nil_right lₑ (f₉ ++ ls) l in
      let z = operand_good here marks marks' m fit bounds context (sort_of q.types k) (variable_known q.types k (omega arith)) (nil_left fₑ fs s) (nil_left lₑ (f₉ ++ ls) l) in
      let flow = kept (secret_in types arrays e && not (type_secret (get_or q.types k 0))) 9 (place_of e) (nil_left f₉ ls l₁) in
      good_more (good_moved here m z.0) (sort_moved here z.0 ∙ z.1 ∙ sym (c.sorts_kept k low)) (rw (secret_moved here z.0, c.labels_kept k low) flow)
      (arguments_good fits marks marks' bounds context m q q' c (k + 1) (omega arith) (nil_right fₑ fs s) (nil_right f₉ ls l₁) extra g)

  call_parts :
      (b g : Bool) (f x y : ℕ) (act' : Expression) (es : List Expression) (marks marks' : List ℕ) → Marked first (length types) marks marks' → f < me
      → guarded (procedure_at ps f) ≡ g → (b ≡ true → Slot here y (secret_of (type_sort (procedure_at ps f).result)))
      → (b ≡ true → GoodExpression types' arrays marks' act' × (sort_in types' act' ≡ boolean_sort))
      → x < length types → eqb (get_or marks x 0) ordinary ≡ true → sort_of types x ≡ type_sort (procedure_at ps f).result
      → ((type_secret (procedure_at ps f).result || b) && not (type_secret (get_or types x 0))) ≡ false → (b && not g) ≡ false → length es ≡ (procedure_at ps f).parameters
      → ((extra : List Expression) → GoodArguments types' arrays marks' (procedure_at ps' f).types (procedure_at ps f).parameters extra → GoodArguments types' arrays marks' (procedure_at ps' f).types 0 (moved_all first es ++ extra))
      → Good' here marks' (compiled_call b g act' y f (renamed first x) (moved_all first es))
  unfolding compiled_call sort_in secret_in
  call_parts true true f x y act' es marks marks' m low eg slot active h o q flow need count args =
      let c = callee f low in
      let t = slot refl in
      let label : type_secret (get_or types' y 0) ≡ true = rw t.2 (secret_label (type_sort (procedure_at ps f).result)) in
      let sort : sort_of types' y ≡ type_sort (procedure_at ps f).result = slot_sort here y (secret_of (type_sort (procedure_at ps f).result)) t ∙ secret_sort
      (procedure_at ps f).result in
      let total : length (moved_all first es ++ (act' ∷ [])) ≡ (procedure_at ps' f).parameters
      = length-append (moved_all first es) (act' ∷ []) ∙ ap (λ n. n + 1) (length_moved first es ∙ count) ∙ sym
      (c.parameters_kept ∙ ap (λ g. (procedure_at ps f).parameters + pick g 1 0) eg) in
      good_step (good_call low t.0 (slot_mark here marks marks' m y (secret_of (type_sort (procedure_at ps f).result)) t)
      (sort ∙ sym (ap type_sort c.result_kept))
      (and_false (type_secret (procedure_at ps' f).result) (not (type_secret (get_or types' y 0))) (rw label)) total
      (args (act' ∷ []) (good_more (active refl).0 ((active refl).1 ∙ sym (c.guard_sort eg))
      (and_false (secret_in types' arrays act') (not (type_secret (get_or (procedure_at ps' f).types (procedure_at ps f).parameters 0)))
      (rw (c.guard_label eg))) good_none)))
      (good_step (good_assign (inside_room here x h) (old_mark here marks marks' m x h o)
      (good_select (active refl).0 (slot_good here marks marks' m y (secret_of (type_sort (procedure_at ps f).result)) t) (old_good here marks marks' m x h o)
      (active refl).1 (variable_sort here x h ∙ q ∙ sym sort))
      (sort ∙ sym q ∙ sym (variable_sort here x h))
      (and_false (secret_in types' arrays (select 0 act' (variable 0 y) (variable 0 (renamed first x)))) (not (type_secret (get_or types' (renamed first x) 0)))
      (rw (typed x h) (sink (type_secret (procedure_at ps f).result) (not (type_secret (get_or types x 0))) flow)))) good_done)
  call_parts true false f x y act' es marks marks' m low eg slot active h o q flow need count args = absurd (false_true (sym need))
  call_parts false true f x y act' es marks marks' m low eg slot active h o q flow need count args =
      let c = callee f low in
      let total : length (moved_all first es ++ (boolean 0 1 ∷ [])) ≡ (procedure_at ps' f).parameters
      = length-append (moved_all first es) (boolean 0 1 ∷ []) ∙ ap (λ n. n + 1) (length_moved first es ∙ count) ∙ sym
      (c.parameters_kept ∙ ap (λ g. (procedure_at ps f).parameters + pick g 1 0) eg) in
      good_step (good_call low (inside_room here x h) (old_mark here marks marks' m x h o) (variable_sort here x h ∙ q ∙ sym (ap type_sort c.result_kept))
      (rw (typed x h, c.result_kept) (source (type_secret (procedure_at ps f).result) (not (type_secret (get_or types x 0))) flow)) total
      (args (boolean 0 1 ∷ []) (good_more (good_boolean {v = 1} (omega arith)) (sym (c.guard_sort eg)) refl good_none)))
      good_done
  call_parts false false f x y act' es marks marks' m low eg slot active h o q flow need count args =
      let c = callee f low in
      let total : length (moved_all first es ++ []) ≡ (procedure_at ps' f).parameters
      = length-append (moved_all first es) [] ∙ add-zero (length (moved_all first es)) ∙ (length_moved first es ∙ count) ∙ sym
      (c.parameters_kept ∙ ap (λ g. (procedure_at ps f).parameters + pick g 1 0) eg ∙ add-zero (procedure_at ps f).parameters) in
      good_step (good_call low (inside_room here x h) (old_mark here marks marks' m x h o) (variable_sort here x h ∙ q ∙ sym (ap type_sort c.result_kept))
      (rw (typed x h, c.result_kept) (source (type_secret (procedure_at ps f).result) (not (type_secret (get_or types x 0))) flow)) total (args [] good_none))
      good_done

  pub call_good : {l : ℕ} (f x : ℕ) (es : List Expression) → f < me → length es ≡ arity_of ps f → FitsAll l es → StatementGood here (call f x es)
  unfolding statement_sort_faults statement_label_faults compiled_statement statement_needs rc_after
  call_good f x es low count fits pc arm rc k marks marks' bounds p m a d pairs temporaries s l =
      let r = (procedure_at ps f).result in
      let f₆ = fault_if (leb (length types) x) 6 p in
      let f₈ = fault_if (not (eqb (get_or marks x 0) ordinary)) 8 p in
      let f₇ = wrong_sort (type_sort r) (sort_of types x) p in
      let fs = argument_faults types (length arrays) marks (procedure_at ps f).types 0 es in
      let f₉ = fault_if ((type_secret r || (pc || rc)) && not (type_secret (get_or types x 0))) 9 p in
      let f₁₂ = fault_if ((pc || rc) && not (guarded (procedure_at ps f))) 12 p in
      let ls = argument_label_faults types arrays bounds (pc || rc) (procedure_at ps f).types 0 es in
      let s₁ = nil_right f₆ (f₈ ++ (f₇ ++ fs)) s in
      let s₂ = nil_right f₈ (f₇ ++ fs) s₁ in
      let l₁ = nil_right f₉ (f₁₂ ++ ls) l in
      let h = leb-false (length types) x (kept (leb (length types) x) 6 p (nil_left f₆ (f₈ ++ (f₇ ++ fs)) s)) in
      let o = not-false (eqb (get_or marks x 0) ordinary) (kept (not (eqb (get_or marks x 0) ordinary)) 8 p (nil_left f₈ (f₇ ++ fs) s₁)) in
      call_parts (pc || rc) (guarded (procedure_at ps f)) f x (temporary (type_sort r)) (act pc arm rc (rv + 1)) es marks marks' m low refl
      (λ e. temporaries (type_sort r) (omega arith) (rw (e, eq-eqb (type_sort r) (type_sort r) refl)))
      (act_good here marks marks' m pc arm rc a (keeps here (call f x es) pc rc d)) h o
      (sorts_agree (type_sort r) (sort_of types x) p (nil_left f₇ fs s₂) (type_known r) (variable_known types x h))
      (kept ((type_secret r || (pc || rc)) && not (type_secret (get_or types x 0))) 9 p (nil_left f₉ (f₁₂ ++ ls) l))
      (kept ((pc || rc) && not (guarded (procedure_at ps f))) 12 p (nil_left f₁₂ ls l₁)) count
      (arguments_good fits marks marks' bounds (pc || rc) m (procedure_at ps f) (procedure_at ps' f) (callee f low) 0 (zero-add (length es) ∙ count) (nil_right f₇ fs s₂)
      (nil_right f₁₂ ls l₁))
