-- A sum that is bounded as an index (document 02, wish 2) is one of a variable and a constant. Assumes nothing.
use Rattle.std.specs.Prelude.{ℕ, Bool, ◌||◌, List, ◌⊎◌, ◌≡◌, get_or}
use Rattle.std.proofs.Math.Bool.{true, false}
use Rattle.std.proofs.lemmas.Bool.{false≢true}
use Rattle.std.proofs.Math.Logic.{inl, inr}
use Rattle.std.proofs.Math.Path.{refl}
use Rattle.std.proofs.Common.{eqb-true}
use Rattle.definitions.specs.declared.ConstantLoop.{ConstantLoop}
use Rattle.definitions.specs.Operators.{adds}
use Rattle.definitions.specs.Image.{Expression, constant, boolean, variable, cell, unary, binary, select}
use Rattle.definitions.specs.Labels.{is_constant, constant_value, unbounded, sum_below, bounded_sum, bounded_index}
use Rattle.laws.specs.Tests.{and_left, and_right}

-- the variable of a for and a constant whose sum is bounded
pub data BoundedSum (bounds : List ConstantLoop) (size : ℕ) : Expression → Expression → Type 0 where
  bounded_sum_lem : {q x r c : ℕ} → sum_below (get_or bounds x unbounded) c size ≡ true → BoundedSum bounds size (variable q x) (constant r c)

module _ (bounds : List ConstantLoop) (size : ℕ) where
  with_constant : (q x : ℕ) (c : Expression) → is_constant c ≡ true → sum_below (get_or bounds x unbounded) (constant_value c) size ≡ true
      → BoundedSum bounds size (variable q x) c
  unfolding is_constant constant_value
  with_constant q x (constant r c) e s = bounded_sum_lem s
  with_constant q x (boolean p v) e s = absurd (false≢true e)
  with_constant q x (variable p y) e s = absurd (false≢true e)
  with_constant q x (cell p a i) e s = absurd (false≢true e)
  with_constant q x (unary p o f) e s = absurd (false≢true e)
  with_constant q x (binary p o f g) e s = absurd (false≢true e)
  with_constant q x (select p d f g) e s = absurd (false≢true e)

  sum_parts : (i c : Expression) → bounded_sum bounds size i c ≡ true → BoundedSum bounds size i c
  unfolding bounded_sum
  sum_parts (variable q x) c e = with_constant q x c (and_left (is_constant c) _ e) (and_right (is_constant c) _ e)
  sum_parts (constant p v) c e = absurd (false≢true e)
  sum_parts (boolean p v) c e = absurd (false≢true e)
  sum_parts (cell p a i) c e = absurd (false≢true e)
  sum_parts (unary p o f) c e = absurd (false≢true e)
  sum_parts (binary p o f g) c e = absurd (false≢true e)
  sum_parts (select p d f g) c e = absurd (false≢true e)

  -- a bounded binary expression is a sum, in one of the two orders
  pub binary_parts : (p o : ℕ) (e f : Expression) → bounded_index bounds size (binary p o e f) ≡ true
      → (o ≡ 0) × (BoundedSum bounds size e f ⊎ BoundedSum bounds size f e)
  unfolding bounded_index
  binary_parts p o e f h = (eqb-true o 0 (and_left (adds o) _ h), by_order (bounded_sum bounds size e f) refl (and_right (adds o) _ h))
    where
      by_order : (b : Bool) → bounded_sum bounds size e f ≡ b → (b || bounded_sum bounds size f e) ≡ true
          → BoundedSum bounds size e f ⊎ BoundedSum bounds size f e
      by_order true k _ = inl (sum_parts e f k)
      by_order false _ k = inr (sum_parts f e k)
