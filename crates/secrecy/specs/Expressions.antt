-- Document 01, "What demand 3 compares", for an expression: evaluated over variables and cells that agree where they are public, it leaves one
-- trace, comes to one stop or to none, and a public one has one value.
-- Assumes nothing.
use Rattle.std.specs.Prelude.{◌≡◌, Bool, true, false, ◌||◌, eqb, ltb, length}
use Rattle.std.proofs.Math.Path.{refl, ap}
use Rattle.std.proofs.Common.{sym, ◌∙◌, add-zero, ltb-true}
use mathlib.Core.List.{List, [], ◌∷◌}
use Prim.Native.Nat.{ℕ, suc, ◌+◌, ◌<◌}
use native.Mathlib.Omega.{arith}
use Rattle.std.proofs.Math.ListN.{get_or}
use Rattle.definitions.specs.Choice.{pick}
use Rattle.definitions.specs.declared.ConstantLoop.{ConstantLoop}
use Rattle.definitions.specs.Operators.{divides, shifts, apply_binary, apply_unary}
use Rattle.definitions.specs.Image.{array_secret, array_length, type_secret, base_of, Expression, constant, boolean}
use Rattle.definitions.specs.Image.{variable, cell, unary, binary, select}
use Rattle.definitions.specs.Labels.{secret_in, label_faults, argument_label_faults}
use Rattle.definitions.specs.Running.{Trace, value, stop, emit, in_array, index_at, divided, shifted, operated, evaluate}
use Rattle.definitions.specs.Running.{evaluate_all}
use Rattle.secrecy.specs.Rules.{or_left, or_right, cell_rules, binary_rules, select_rules, argument_rules}
use Rattle.secrecy.specs.Agreement.{Agree, agree_cons, agree_labels, cell_secret, layout}
use Rattle.secrecy.specs.Related.{Evaluations, values, stops, relaxed, itself, on_bind}

-- whether a variable is secret, by the type words of its procedure
abbrev pub variable_secret : List ℕ → ℕ → Bool
variable_secret types x = type_secret (get_or types x 0)

-- an index that is handed on lies in the array
pub same_index : {T : Type 0} (C : Trace T) (arrays : List ℕ) (a l v : ℕ) (t : T)
    → Evaluations (λ i j. (i ≡ j) × (j < array_length (get_or arrays a 0))) (index_at C arrays a l v t) (index_at C arrays a l v t)
unfolding index_at in_array
same_index {T} C arrays a l v t = on_bind (itself (emit C 4 l v t)) λ i j u e. rw e (by_test j u (ltb j (array_length (get_or arrays a 0))) refl)
  where
    by_test : (j : ℕ) (u : T) (b : Bool) → ltb j (array_length (get_or arrays a 0)) ≡ b
        → Evaluations {A = ℕ} {B = ℕ} (λ i k. (i ≡ k) × (k < array_length (get_or arrays a 0))) (pick b (value j u) (stop 23 l u))
        (pick b (value j u) (stop 23 l u))
    by_test j u true e = values (refl, ltb-true j (array_length (get_or arrays a 0)) e)
    by_test j u false e = stops

-- an operator: the operands of a division are the same, and so is a shift's count, whatever is shifted
same_operated : {T : Type 0} (C : Trace T) (p o v w x y : ℕ) (t : T) (s r : Bool)
    → (s ≡ false → v ≡ x) → (r ≡ false → w ≡ y)
    → (divides o ≡ true → (s ≡ false) × (r ≡ false)) → (shifts o ≡ true → r ≡ false)
    → Evaluations (λ a b. (s || r) ≡ false → a ≡ b) (operated C p o v w t) (operated C p o x y t)
unfolding operated shifted
same_operated {T} C p o v w x y t s r e f d c = by_test (divides o) (shifts o) d c
  where
    same_result : (s || r) ≡ false → apply_binary o v w ≡ apply_binary o x y
    same_result g = rw (e (or_left s r g), f (or_right s r g))

    by_test : (b b' : Bool) → (b ≡ true → (s ≡ false) × (r ≡ false)) → (b' ≡ true → r ≡ false)
        → Evaluations (λ a b. (s || r) ≡ false → a ≡ b) (pick b (divided C p o v w) (pick b' (shifted C p o v w) (value (apply_binary o v w))) t)
        (pick b (divided C p o x y) (pick b' (shifted C p o x y) (value (apply_binary o x y))) t)
    by_test true b' k l =
        rw (e (k refl).0, f (k refl).1) (relaxed (itself (divided C p o x y t)) λ a b q g. q)
    by_test false true k l =
        let count : w ≡ y = f (l refl) in
        rw count (on_bind (itself (emit C 9 p y t)) λ i j u q. values {a = apply_binary o v y} {b = apply_binary o x y} (rw count at same_result))
    by_test false false k l = values {a = apply_binary o v w} {b = apply_binary o x y} same_result

module _ {T : Type 0} (C : Trace T) (arrays types : List ℕ) (bounds : List ConstantLoop) (context : Bool) {n m : ℕ} {vs us cs ds : List ℕ}
    (hv : Agree n (variable_secret types) vs us) (hc : Agree m (cell_secret arrays) cs ds) where
  pub same_evaluate : (e : Expression) → (label_faults types arrays bounds context e ≡ []) → (t : T)
      → Evaluations (λ v w. secret_in types arrays e ≡ false → v ≡ w) (evaluate C arrays e vs cs t) (evaluate C arrays e us ds t)
  unfolding evaluate secret_in label_faults
  same_evaluate (constant p v) h t = values (λ g. refl)
  same_evaluate (boolean p v) h t = values (λ g. refl)
  same_evaluate (variable p x) h t = values (λ g. hv.here x g)
  same_evaluate (cell p a i) h t =
      let r = cell_rules types arrays bounds context p a i h in
      on_bind (same_evaluate i r.0 t) λ v w u e.
      rw (e r.1) (on_bind (same_index C arrays a p w u) λ j k x f.
      values {a = get_or cs (base_of arrays a + j) 0} {b = get_or ds (base_of arrays a + k) 0} (λ g.
      rw f.0 (hc.here (base_of arrays a + k)
      (layout arrays a k f.1 ∙ or_left (array_secret (get_or arrays a 0)) (secret_in types arrays i) g))))
  same_evaluate (unary p o e) h t = on_bind (same_evaluate e h t) λ v w u r. values (λ g. ap (apply_unary o) (r g))
  same_evaluate (binary p o e f) h t =
      let r = binary_rules types arrays bounds context p o e f h in
      on_bind (same_evaluate e r.0 t) λ v x u q.
      on_bind (same_evaluate f r.1 u) λ w y z k.
      same_operated C p o v w x y z (secret_in types arrays e) (secret_in types arrays f) q k r.2 r.3
  same_evaluate (select p c e f) h t =
      let r = select_rules types arrays bounds context p c e f h in
      on_bind (same_evaluate c r.0 t) λ b d u q.
      on_bind (same_evaluate e r.1 u) λ v x z k.
      on_bind (same_evaluate f r.2 z) λ w y o j.
      values {a = pick (eqb b 0) w v} {b = pick (eqb d 0) y x} (λ g. rw (
        q (or_left (secret_in types arrays c) (secret_in types arrays e || secret_in types arrays f) g),
        k (or_left (secret_in types arrays e) (secret_in types arrays f) (or_right (secret_in types arrays c) (secret_in types arrays e || secret_in types arrays f) g)),
        j (or_right (secret_in types arrays e) (secret_in types arrays f) (or_right (secret_in types arrays c) (secret_in types arrays e || secret_in types arrays f) g)),
      ))

  -- a call's arguments, by the parameters from number k on
  pub same_arguments : (callee : List ℕ) (es : List Expression) (k : ℕ)
      → (argument_label_faults types arrays bounds context callee k es ≡ []) → (t : T)
      → Evaluations (Agree (length es) (λ i. variable_secret callee (k + i))) (evaluate_all C arrays es vs cs t) (evaluate_all C arrays es us ds t)
  unfolding evaluate_all
  same_arguments callee [] k h t = values (record { left = refl; right = refl; here = λ i g. refl })
  same_arguments callee (e ∷ es) k h t =
      let r = argument_rules types arrays bounds context callee k e es h in
      on_bind (same_evaluate e r.0 t) λ v w u q.
      on_bind (same_arguments callee es (k + 1) r.2 u) λ ws xs x a.
      values (agree_cons v w (λ g. q (r.1 (ap (λ (i : ℕ). variable_secret callee i) (sym (add-zero k)) ∙ g)))
      (agree_labels (λ i. ap (λ (j : ℕ). variable_secret callee j) (next_place k i)) a))
    where
      next_place : (k i : ℕ) → k + 1 + i ≡ k + suc i
      next_place k i = omega arith
