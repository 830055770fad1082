-- What an expression without a fault is, and that it stays so where its variables are renumbered. Assumes nothing.
use Rattle.std.specs.Prelude.{ℕ, zero, suc, ◌<◌, Bool, true, false, ◌&&◌, not, List, [], ◌∷◌, ◌++◌, ◌≡◌, leb, eqb, length, get_or}
use Rattle.std.proofs.Math.Path.{refl}
use Rattle.std.proofs.Common.{arith, lt-ltb, leb-false, ne_eqb}
use Rattle.std.proofs.lemmas.Bool.{not-true}
use Rattle.definitions.specs.declared.ConstantLoop.{ConstantLoop}
use Rattle.definitions.specs.Operators.{Row, row, operators, operator, word_sort, boolean_sort, neither, unary_operand}
use Rattle.definitions.specs.Operators.{unary_result, both, right}
use Rattle.definitions.specs.Image.{type_sort, Expression, place_of}
use Rattle.definitions.specs.Faults.{fault_if}
use Rattle.definitions.specs.Sorts.{no_sort, sort_of, sort_in, wrong_sort, outside, sort_faults}
use Rattle.definitions.specs.Labels.{secret_in, label_faults, secret_fault, index_faults, operator_faults}
use Rattle.laws.specs.Tests.{and_left, and_right, nil_left, nil_right, kept}
use Rattle.statements.specs.Limits.{FitsExpression, fit_constant, fit_boolean, fit_variable, fit_cell, fit_unary, fit_binary}
use Rattle.statements.specs.Limits.{fit_select}
use Rattle.readback.specs.Clean.{sorts_agree}
use Rattle.readback.specs.Good.{GoodExpression, good_constant, good_boolean, good_variable, good_cell, good_unary}
use Rattle.readback.specs.Good.{good_binary, good_select}

-- the sorts of the table are words and booleans
all_known : List Row → Bool
all_known [] = true
all_known (r ∷ rs) = not (eqb r.operands no_sort) && (not (eqb r.result no_sort) && all_known rs)

operands_known : (rows : List Row) (o : ℕ) → all_known rows ≡ true → eqb (get_or rows o (row word_sort word_sort neither)).operands no_sort ≡ false
unfolding all_known
operands_known [] o h = refl
operands_known (r ∷ rs) zero h = not-true (eqb r.operands no_sort) (and_left (not (eqb r.operands no_sort)) (not (eqb r.result no_sort) && all_known rs) h)
operands_known (r ∷ rs) (suc o) h = operands_known rs o (and_right (not (eqb r.result no_sort)) (all_known rs)
    (and_right (not (eqb r.operands no_sort)) (not (eqb r.result no_sort) && all_known rs) h))

result_known : (rows : List Row) (o : ℕ) → all_known rows ≡ true → eqb (get_or rows o (row word_sort word_sort neither)).result no_sort ≡ false
unfolding all_known
result_known [] o h = refl
result_known (r ∷ rs) zero h = not-true (eqb r.result no_sort)
    (and_left (not (eqb r.result no_sort)) (all_known rs) (and_right (not (eqb r.operands no_sort)) (not (eqb r.result no_sort) && all_known rs) h))
result_known (r ∷ rs) (suc o) h = result_known rs o (and_right (not (eqb r.result no_sort)) (all_known rs)
    (and_right (not (eqb r.operands no_sort)) (not (eqb r.result no_sort) && all_known rs) h))

operator_known : (o : ℕ) → (eqb (operator o).operands no_sort ≡ false) × (eqb (operator o).result no_sort ≡ false)
unfolding all_known
operator_known o = (operands_known operators o refl, result_known operators o refl)

unary_known : (o : ℕ) → (eqb (unary_operand o) no_sort ≡ false) × (eqb (unary_result o) no_sort ≡ false)
unary_known zero = (refl, refl)
unary_known (suc zero) = (refl, refl)
unary_known (suc (suc zero)) = (refl, refl)
unary_known (suc (suc (suc o))) = (refl, refl)

pub type_known : (w : ℕ) → eqb (type_sort w) no_sort ≡ false
type_known w = ne_eqb (type_sort w) no_sort (λ e. omega arith)

pub variable_known : (types : List ℕ) (x : ℕ) → x < length types → eqb (sort_of types x) no_sort ≡ false
variable_known types x h = rw (lt-ltb x (length types) h) (type_known (get_or types x 0))

module _ (types arrays marks : List ℕ) where
  pub good_known : {e : Expression} → GoodExpression types arrays marks e → eqb (sort_in types e) no_sort ≡ false
  unfolding sort_in
  good_known good_constant = refl
  good_known (good_boolean h) = refl
  good_known (good_variable {x = x} h m) = variable_known types x h
  good_known (good_cell h g s l) = refl
  good_known (good_unary {o = o} h g s) = (unary_known o).1
  good_known (good_binary {o = o} h g g' s s' l l') = (operator_known o).1
  good_known (good_select g g' g'' s s') = good_known g'

  -- an expression that fits and has no fault is good
  pub source_good :
      {l : ℕ} {e : Expression} → FitsExpression l e → (bounds : List ConstantLoop) (context : Bool) → sort_faults types (length arrays) marks e ≡ []
      → label_faults types arrays bounds context e ≡ [] → GoodExpression types arrays marks e
  unfolding sort_faults label_faults
  source_good fit_constant bounds context s l = good_constant
  source_good (fit_boolean h) bounds context s l = good_boolean h
  source_good (fit_variable {p = p} {x} h) bounds context s l =
      good_variable (leb-false (length types) x (kept (leb (length types) x) 6 p (nil_left _ _ s)))
      (kept (eqb (get_or marks x 0) outside) 8 p (nil_right (fault_if (leb (length types) x) 6 p) _ s))
  source_good (fit_cell {p = p} {a} {i} h f) bounds context s l =
      let s₁ = nil_right (fault_if (leb (length arrays) a) 6 p) (sort_faults types (length arrays) marks i ++ wrong_sort word_sort (sort_in types i) (place_of i)) s in
      let g = source_good f bounds context (nil_left (sort_faults types (length arrays) marks i) _ s₁) (nil_left (label_faults types arrays bounds context i) _ l) in
      good_cell (leb-false (length arrays) a (kept (leb (length arrays) a) 6 p (nil_left _ _ s))) g
      (sorts_agree word_sort (sort_in types i) (place_of i) (nil_right (sort_faults types (length arrays) marks i) _ s₁) refl (good_known g))
      (kept (secret_in types arrays i) 10 (place_of i) (nil_left (secret_fault types arrays i) _
      (nil_right (label_faults types arrays bounds context i) (index_faults types arrays bounds context a i) l)))
  source_good (fit_unary {o = o} {e} h f) bounds context s l =
      let g = source_good f bounds context (nil_left (sort_faults types (length arrays) marks e) _ s) l in
      good_unary h g (sorts_agree (unary_operand o) (sort_in types e) (place_of e) (nil_right (sort_faults types (length arrays) marks e) _ s) (unary_known o).0 (good_known g))
  source_good (fit_binary {o = o} {e} {f} h k k') bounds context s l =
      let s₁ = nil_right (sort_faults types (length arrays) marks e)
      (wrong_sort (operator o).operands (sort_in types e) (place_of e) ++
      (sort_faults types (length arrays) marks f ++ wrong_sort (operator o).operands (sort_in types f) (place_of f))) s in
      let s₂ = nil_right (wrong_sort (operator o).operands (sort_in types e) (place_of e))
      (sort_faults types (length arrays) marks f ++ wrong_sort (operator o).operands (sort_in types f) (place_of f)) s₁ in
      let l₁ = nil_right (label_faults types arrays bounds context e) (label_faults types arrays bounds context f ++ operator_faults types arrays context o e f) l in
      let l₂ = nil_right (label_faults types arrays bounds context f) (operator_faults types arrays context o e f) l₁ in
      let g = source_good k bounds context (nil_left (sort_faults types (length arrays) marks e) _ s) (nil_left (label_faults types arrays bounds context e) _ l) in
      let g' = source_good k' bounds context (nil_left (sort_faults types (length arrays) marks f) _ s₂) (nil_left (label_faults types arrays bounds context f) _ l₁) in
      good_binary h g g'
      (sorts_agree (operator o).operands (sort_in types e) (place_of e) (nil_left (wrong_sort (operator o).operands (sort_in types e) (place_of e)) _ s₁)
      (operator_known o).0 (good_known g))
      (sorts_agree (operator o).operands (sort_in types f) (place_of f) (nil_right (sort_faults types (length arrays) marks f) _ s₂) (operator_known o).0 (good_known g'))
      (kept (eqb (operator o).publics both && secret_in types arrays e) 10 (place_of e)
      (nil_left (fault_if (eqb (operator o).publics both && secret_in types arrays e) 10 (place_of e)) _ l₂))
      (kept (leb right (operator o).publics && secret_in types arrays f) 10 (place_of f)
      (nil_left (fault_if (leb right (operator o).publics && secret_in types arrays f) 10 (place_of f)) _
      (nil_right (fault_if (eqb (operator o).publics both && secret_in types arrays e) 10 (place_of e)) _ l₂)))
  source_good (fit_select {c = c} {e} {f} k k' k'') bounds context s l =
      let sₑ = sort_faults types (length arrays) marks e in
      let sf = sort_faults types (length arrays) marks f in
      let wc = wrong_sort boolean_sort (sort_in types c) (place_of c) in
      let wf = wrong_sort (sort_in types e) (sort_in types f) (place_of f) in
      let s₁ = nil_right (sort_faults types (length arrays) marks c) (wc ++ (sₑ ++ (sf ++ wf))) s in
      let s₂ = nil_right wc (sₑ ++ (sf ++ wf)) s₁ in
      let s₃ = nil_right sₑ (sf ++ wf) s₂ in
      let l₁ = nil_right (label_faults types arrays bounds context c) (label_faults types arrays bounds context e ++ label_faults types arrays bounds context f) l in
      let g = source_good k bounds context (nil_left (sort_faults types (length arrays) marks c) _ s) (nil_left (label_faults types arrays bounds context c) _ l) in
      let g' = source_good k' bounds context (nil_left sₑ _ s₂) (nil_left (label_faults types arrays bounds context e) _ l₁) in
      let g'' = source_good k'' bounds context (nil_left sf _ s₃) (nil_right (label_faults types arrays bounds context e) _ l₁) in
      good_select g g' g''
      (sorts_agree boolean_sort (sort_in types c) (place_of c) (nil_left wc _ s₁) refl (good_known g))
      (sorts_agree (sort_in types e) (sort_in types f) (place_of f) (nil_right sf wf s₃) (good_known g') (good_known g''))
