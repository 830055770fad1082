-- Evaluating an expression and its compiled form: alike where the variables that the expression may read have the same values, and without
-- a fault where it keeps the rules of a secret context. Assumes nothing.
use Rattle.std.specs.Prelude.{◌≡◌, ◌≢◌, ◌⊎◌, Bool, ◌&&◌, ◌||◌, ltb, leb, length}
use Rattle.std.proofs.Math.Path.{refl, ap}
use Rattle.std.proofs.Common.{sym, inl, inr, true≢false, arith}
use Rattle.std.proofs.Math.Bool.{true, false}
use Rattle.std.proofs.lemmas.Bool.{false≢true}
use mathlib.Core.List.{List, [], ◌∷◌, ◌++◌}
use Prim.Native.Nat.{ℕ, suc, ◌+◌, ◌<◌}
use Rattle.std.proofs.Math.Dec.{eqb}
use Rattle.std.proofs.Math.ListN.{get_or}
use borrow.Author.Tests.{ltb-true, leb-true, leb-false, eqb-true, eqb-false, not-false, lt-ltb}
use Rattle.definitions.specs.Choice.{pick}
use Rattle.definitions.specs.declared.ConstantLoop.{ConstantLoop}
use Rattle.definitions.specs.Operators.{divides, shifts, apply_binary, left_public}
use Rattle.definitions.specs.Image.{array_length, base_of, Expression, constant, boolean, variable, cell, unary, binary}
use Rattle.definitions.specs.Image.{select, place_of}
use Rattle.definitions.specs.Sorts.{outside, sort_faults, argument_faults}
use Rattle.definitions.specs.Labels.{is_constant, constant_value, unbounded, sum_below, bounded_index, label_faults}
use Rattle.definitions.specs.Labels.{argument_label_faults}
use Rattle.definitions.specs.Compiling.{renamed, moved, moved_all}
use Rattle.definitions.specs.Running.{Trace, value, stop, bind, in_array, index_at, divided, shifted, operated, evaluate}
use Rattle.definitions.specs.Running.{evaluate_all}
use Rattle.laws.specs.Tests.{kept, empties}
use Rattle.laws.specs.Sums.{BoundedSum, bounded_sum_lem, binary_parts}
use Rattle.laws.specs.OperatorTests.{division_publics}
use Rattle.preservation.specs.Relations.{SafeValue, sound, SimValue, same, broke, safe_bind, sim_bind}
use Rattle.preservation.specs.Relations.{sim_value_map, both, emitted}

-- what may bound an index: a for without a pass, or one whose upper bound a length can reach
abbrev pub MayBound : ConstantLoop → Type 0
MayBound for = 0 < for.passes → for.upper < 65536

-- while the for's block runs, it has a pass, and its variable is below its upper bound
abbrev pub Within : ConstantLoop → ℕ → Type 0
Within for v = (0 < for.passes) × (v < for.upper)

abbrev pub Bounded : List ConstantLoop → ℕ → List ℕ → Type 0
Bounded bounds first vs = (x : ℕ) → MayBound (get_or bounds x unbounded) → Within (get_or bounds x unbounded) (get_or vs (renamed first x) 0)

-- a small sum does not wrap
small_sum : (v w : ℕ) → v + w < 65536 → apply_binary 0 v w ≡ v + w
unfolding apply_binary
small_sum v w h = omega arith

-- what a compiled expression comes to in a secret context
module _ {T : Type 0} (D : Trace T) (arrays : List ℕ) (first : ℕ) (vs cs : List ℕ) where
  pub constant_value_lem : (e : Expression) → is_constant e ≡ true → (t : T) → evaluate D arrays (moved first e) vs cs t ≡ value (constant_value e) t
  unfolding is_constant constant_value moved evaluate
  constant_value_lem (constant p v) e t = refl
  constant_value_lem (boolean p v) e t = absurd (false≢true e)
  constant_value_lem (variable p x) e t = absurd (false≢true e)
  constant_value_lem (cell p a i) e t = absurd (false≢true e)
  constant_value_lem (unary p o f) e t = absurd (false≢true e)
  constant_value_lem (binary p o f g) e t = absurd (false≢true e)
  constant_value_lem (select p c f g) e t = absurd (false≢true e)

  module _ (bounds : List ConstantLoop) (h : Bounded bounds first vs) (size : ℕ) (s : size < 65536) where
    -- the sum of a variable and a constant is below the length; a for without a pass has no variable while its block runs
    sum_value : (x c : ℕ) → sum_below (get_or bounds x unbounded) c size ≡ true → get_or vs (renamed first x) 0 + c < size
    sum_value x c = go (eqb (get_or bounds x unbounded).passes 0) refl
      where
        go : (none : Bool) → eqb (get_or bounds x unbounded).passes 0 ≡ none → (none || leb ((get_or bounds x unbounded).upper + c) size) ≡ true
            → get_or vs (renamed first x) 0 + c < size
        go true q _ =
            let m = eqb-true (get_or bounds x unbounded).passes 0 q in
            let w = h x (λ p. absurd (omega arith)) in
            absurd (omega arith)
        go false q r =
            let m = leb-true ((get_or bounds x unbounded).upper + c) size r in
            let w = h x (λ _. omega arith) in
            omega arith

    either_order : (p : ℕ) {f g : Expression} → BoundedSum bounds size f g ⊎ BoundedSum bounds size g f
        → (v : ℕ) × ((t : T) → evaluate D arrays (moved first (binary p 0 f g)) vs cs t ≡ value v t) × (v < size)
    unfolding moved evaluate operated
    either_order p (inl (bounded_sum_lem {x = x} {c = c} e)) =
        let v = get_or vs (renamed first x) 0 in
        let b = sum_value x c e in
        (v + c, λ t. rw (small_sum v c (omega arith)) refl, b)
    either_order p (inr (bounded_sum_lem {x = x} {c = c} e)) =
        let v = get_or vs (renamed first x) 0 in
        let b = sum_value x c e in
        (c + v, λ t. rw (small_sum c v (omega arith)) refl, omega arith)

  pub index_value : (bounds : List ConstantLoop) → Bounded bounds first vs → (size : ℕ) → size < 65536 → (i : Expression) → bounded_index bounds size i ≡ true
      → (v : ℕ) × ((t : T) → evaluate D arrays (moved first i) vs cs t ≡ value v t) × (v < size)
  unfolding bounded_index moved evaluate
  index_value bounds h size s (constant p v) e = (v, λ t. refl, ltb-true v size e)
  index_value bounds h size s (boolean p v) e = absurd (false≢true e)
  index_value bounds h size s (variable p x) e =
      let b = leb-true (get_or bounds x unbounded).upper size e in
      let c = h x (λ _. omega arith) in
      (get_or vs (renamed first x) 0, λ t. refl, omega arith)
  index_value bounds h size s (cell p a i) e = absurd (false≢true e)
  index_value bounds h size s (unary p o f) e = absurd (false≢true e)
  index_value bounds h size s (binary p o f g) e =
      let (z, sum) = binary_parts bounds size p o f g e in rw z (either_order bounds h size s p sum)
  index_value bounds h size s (select p c f g) e = absurd (false≢true e)

  pub safe_index : (a l v : ℕ) → v < array_length (get_or arrays a 0) → (t : T) → SafeValue (λ j. j ≡ v) (index_at D arrays a l v t)
  unfolding index_at in_array
  safe_index a l v h t = safe_bind (emitted D 4 l v t) λ i u e. rw (e, lt-ltb v (array_length (get_or arrays a 0)) h) (sound refl)

  pub safe_divided : (p o v w : ℕ) → eqb w 0 ≡ false → (t : T) → SafeValue (λ (_ : ℕ). Unit {0}) (divided D p o v w t)
  unfolding divided
  safe_divided p o v w e t = safe_bind (emitted D 5 p v t) λ a u _. safe_bind (emitted D 6 p w u) λ b x _. rw e (sound tt)

  -- a shift is stopped only by a full trace
  pub safe_shifted : (p o v w : ℕ) (t : T) → SafeValue (λ (_ : ℕ). Unit {0}) (shifted D p o v w t)
  unfolding shifted
  safe_shifted p o v w t = safe_bind (emitted D 9 p w t) λ a u _. sound tt

-- what is no constant has the value 0
nonzero_constant : (e : Expression) → eqb (constant_value e) 0 ≡ false → is_constant e ≡ true
unfolding constant_value is_constant
nonzero_constant (constant p v) h = refl
nonzero_constant (boolean p v) h = absurd (true≢false h)
nonzero_constant (variable p x) h = absurd (true≢false h)
nonzero_constant (cell p a i) h = absurd (true≢false h)
nonzero_constant (unary p o e) h = absurd (true≢false h)
nonzero_constant (binary p o e f) h = absurd (true≢false h)
nonzero_constant (select p c e f) h = absurd (true≢false h)

-- the array's length is a number of 16 bits
pub short_array : (w : ℕ) → array_length w < 65536
short_array w = omega arith

module _ {T : Type 0} (D : Trace T) (types arrays : List ℕ) (bounds : List ConstantLoop) (first : ℕ) (vs cs : List ℕ) (h : Bounded bounds first vs) where
  -- in a secret context an expression does not fault
  pub safe_value : (e : Expression) → label_faults types arrays bounds true e ≡ [] → (t : T) → SafeValue (λ (_ : ℕ). Unit {0}) (evaluate D arrays (moved first e) vs cs t)
  unfolding label_faults moved evaluate operated
  safe_value (constant p v) e t = sound tt
  safe_value (boolean p v) e t = sound tt
  safe_value (variable p x) e t = sound tt
  safe_value (cell p a i) e t =
      let b = not-false (bounded_index bounds (array_length (get_or arrays a 0)) i) (kept _ 11 (place_of i) (search empties)) in
      let v = index_value D arrays first vs cs bounds h (array_length (get_or arrays a 0)) (short_array (get_or arrays a 0)) i b in
      rw (v.1 t) (safe_bind (safe_index D arrays first vs cs a p v.0 v.2 t) λ j u _. sound tt)
  safe_value (unary p o f) e t = safe_bind (safe_value f e t) λ v u _. sound tt
  safe_value (binary p o f g) e t = safe_bind (safe_value f (search empties) t) λ v u _. go v u (divides o) (shifts o) refl (safe_value g (search empties) u)
    where
      go : (v : ℕ) (u : T) (b c : Bool) → divides o ≡ b → SafeValue (λ (_ : ℕ). Unit {0}) (evaluate D arrays (moved first g) vs cs u)
          → SafeValue (λ (_ : ℕ). Unit {0}) (bind (evaluate D arrays (moved first g) vs cs u)
          (λ w x. pick b (divided D p o v w) (pick c (shifted D p o v w) (value (apply_binary o v w))) x))
      go v u true _ q _ =
          let k : (left_public o && eqb (constant_value g) 0) ≡ false = kept _ 11 (place_of g) (search empties) in
          let c : eqb (constant_value g) 0 ≡ false = rw (division_publics o q) at k in
          rw (constant_value_lem D arrays first vs cs g (nonzero_constant g c) u) (safe_divided D arrays first vs cs p o v (constant_value g) c u)
      go v u false true q r = safe_bind r λ w x _. safe_shifted D arrays first vs cs p o v w x
      go v u false false q r = safe_bind r λ w x _. sound tt
  safe_value (select p c f g) e t =
      safe_bind (safe_value c (search empties) t) λ b u _.
      safe_bind (safe_value f (search empties) u) λ v x _.
      safe_bind (safe_value g (search empties) x) λ w y _. sound tt

  -- so do arguments, before others that have known values
  pub safe_values : (callee : List ℕ) (k : ℕ) (es : List Expression) → argument_label_faults types arrays bounds true callee k es ≡ []
      → (rest : List Expression) (xs : List ℕ) → ((t : T) → evaluate_all D arrays rest vs cs t ≡ value xs t) → (t : T)
      → SafeValue (λ b. (a : List ℕ) × (b ≡ a ++ xs) × (length a ≡ length es)) (evaluate_all D arrays (moved_all first es ++ rest) vs cs t)
  unfolding argument_label_faults moved_all evaluate_all
  safe_values callee k [] f rest xs q t = rw (q t) (sound ([], refl, refl))
  safe_values callee k (e ∷ es) f rest xs q t =
      safe_bind (safe_value e (search empties) t) λ v u _.
      safe_bind (safe_values callee (k + 1) es (search empties) rest xs q u) λ b x r.
      sound (v ∷ r.0, ap (λ c. v ∷ c) r.1, ap suc r.2)

-- the variables that an expression may read have the same values in the source's and the compiled frame
abbrev pub Agree : List ℕ → List ℕ → ℕ → List ℕ → List ℕ → Type 0
Agree types marks first us vs = (x : ℕ) → x < length types → get_or marks x 0 ≢ outside → get_or vs (renamed first x) 0 ≡ get_or us x 0

module _ {T U : Type 0} (C : Trace T) (D : Trace U) where
  pub sim_index : (arrays : List ℕ) (a l k v : ℕ) (t : T) (u : U) → SimValue (λ i j. i ≡ j) (index_at C arrays a l v t) (index_at D arrays a k v u)
  unfolding index_at in_array
  sim_index arrays a l k v t u =
      sim_bind (both (emitted C 4 l v t) (emitted D 4 k v u)) λ i j x y q. rw (q.0, q.1) (go x y (ltb v (array_length (get_or arrays a 0))))
    where
      go : (x : T) (y : U) (b : Bool) → SimValue {A = ℕ} {B = ℕ} (λ i j. i ≡ j) (pick b (value v x) (stop 23 l x)) (pick b (value v y) (stop 23 k y))
      go x y true = same refl
      go x y false = broke

  pub sim_divided : (p q o v w : ℕ) (t : T) (u : U) → SimValue (λ i j. i ≡ j) (divided C p o v w t) (divided D q o v w u)
  unfolding divided
  sim_divided p q o v w t u =
      sim_bind (both (emitted C 5 p v t) (emitted D 5 q v u)) λ a b x y _.
      sim_bind (both (emitted C 6 p w x) (emitted D 6 q w y)) λ c d x' y' _. go x' y' (eqb w 0)
    where
      go : (x : T) (y : U) (b : Bool) → SimValue {A = ℕ} {B = ℕ} (λ i j. i ≡ j) (pick b (stop 24 p x) (value (apply_binary o v w) x)) (pick b (stop 24 q y) (value (apply_binary o v w) y))
      go x y true = broke
      go x y false = same refl

  pub sim_operated : (p q o v w : ℕ) (t : T) (u : U) → SimValue (λ i j. i ≡ j) (operated C p o v w t) (operated D q o v w u)
  unfolding operated shifted
  sim_operated p q o v w t u = go (divides o) (shifts o)
    where
      go : (b c : Bool) → SimValue (λ i j. i ≡ j) (pick b (divided C p o v w) (pick c (shifted C p o v w) (value (apply_binary o v w))) t)
          (pick b (divided D q o v w) (pick c (shifted D q o v w) (value (apply_binary o v w))) u)
      go true c = sim_divided p q o v w t u
      go false true = sim_bind (both (emitted C 9 p w t) (emitted D 9 q w u)) λ a b x y _. same refl
      go false false = same refl

module _ {T U : Type 0} (C : Trace T) (D : Trace U) (types arrays marks : List ℕ) (first size : ℕ) (us vs cs : List ℕ) (h : Agree types marks first us vs) where
  -- an expression and its compiled form end alike
  pub sim_value : (e : Expression) → sort_faults types size marks e ≡ [] → (t : T) (u : U)
      → SimValue (λ i j. i ≡ j) (evaluate C arrays e us cs t) (evaluate D arrays (moved first e) vs cs u)
  unfolding sort_faults moved evaluate
  sim_value (constant p v) f t u = same refl
  sim_value (boolean p v) f t u = same refl
  sim_value (variable p x) f t u =
      same (sym (h x (leb-false (length types) x (kept _ 6 p (search empties))) (eqb-false (get_or marks x 0) outside (kept _ 8 p (search empties)))))
  sim_value (cell p a i) f t u =
      sim_bind (sim_value i (search empties) t u) λ v w x y q.
      rw q (sim_bind (sim_index C D arrays a p p w x y) λ j k x' y' r. same (ap (λ n. get_or cs (base_of arrays a + n) 0) r))
  sim_value (unary p o e) f t u = sim_bind (sim_value e (search empties) t u) λ v w x y q. rw q (same refl)
  sim_value (binary p o e g) f t u =
      sim_bind (sim_value e (search empties) t u) λ v w x y q.
      sim_bind (sim_value g (search empties) x y) λ v' w' x' y' q'.
      rw (q, q') (sim_operated C D p p o w w' x' y')
  sim_value (select p c e g) f t u =
      sim_bind (sim_value c (search empties) t u) λ b b' x y q.
      sim_bind (sim_value e (search empties) x y) λ v v' x' y' q'.
      sim_bind (sim_value g (search empties) x' y') λ w w' x'' y'' q''. rw (q, q', q'') (same refl)

  -- a for's bound, which has its own value where it is a constant
  pub sim_bound : (e : Expression) → sort_faults types size marks e ≡ [] → (t : T) (u : U)
      → SimValue (λ i j. (i ≡ j) × (is_constant e ≡ true → j ≡ constant_value e)) (evaluate C arrays e us cs t) (evaluate D arrays (moved first e) vs cs u)
  unfolding is_constant constant_value moved evaluate
  sim_bound (constant p v) f t u = same (refl, λ _. refl)
  sim_bound (boolean p v) f t u = same (refl, λ c. absurd (false≢true c))
  sim_bound (variable p x) f t u = sim_value_map (λ i j q. (q, λ c. absurd (false≢true c))) (sim_value (variable p x) f t u)
  sim_bound (cell p a i) f t u = sim_value_map (λ i j q. (q, λ c. absurd (false≢true c))) (sim_value (cell p a i) f t u)
  sim_bound (unary p o e) f t u = sim_value_map (λ i j q. (q, λ c. absurd (false≢true c))) (sim_value (unary p o e) f t u)
  sim_bound (binary p o e g) f t u = sim_value_map (λ i j q. (q, λ c. absurd (false≢true c))) (sim_value (binary p o e g) f t u)
  sim_bound (select p c e g) f t u = sim_value_map (λ i j q. (q, λ c. absurd (false≢true c))) (sim_value (select p c e g) f t u)

  -- so do arguments, before others of the compiled form that have known values
  pub sim_values : (callee : List ℕ) (k : ℕ) (es : List Expression) → argument_faults types size marks callee k es ≡ []
      → (rest : List Expression) (xs : List ℕ) → ((u : U) → evaluate_all D arrays rest vs cs u ≡ value xs u) → (t : T) (u : U)
      → SimValue (λ a b. (b ≡ a ++ xs) × (length a ≡ length es)) (evaluate_all C arrays es us cs t) (evaluate_all D arrays (moved_all first es ++ rest) vs cs u)
  unfolding argument_faults moved_all evaluate_all
  sim_values callee k [] f rest xs q t u = rw (q u) (same (refl, refl))
  sim_values callee k (e ∷ es) f rest xs q t u =
      sim_bind (sim_value e (search empties) t u) λ v w x y r.
      sim_bind (sim_values callee (k + 1) es (search empties) rest xs q x y) λ a b x' y' s.
      same (cc, ap suc s.1)
