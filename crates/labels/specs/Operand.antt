-- What the words of an operand say of it: whether it is a constant, its value, whether it is bounded as an index.
-- Its tree says the same (`operand_words`, `index_words`). Assumes nothing.
use Rattle.std.specs.Prelude.{ℕ, ◌+◌, ◌-◌, Bool, ◌&&◌, ◌||◌, List, ◌≡◌, eqb, ltb, leb, get_or}
use Rattle.std.proofs.Common.{arith, ◌∙◌}
use Rattle.std.proofs.Math.Bool.{true, false}
use Rattle.std.proofs.lemmas.Bool.{false≢true}
use Rattle.std.proofs.Math.Path.{refl}
use Rattle.definitions.specs.Choice.{pick}
use Rattle.definitions.specs.declared.ConstantLoop.{ConstantLoop}
use Rattle.definitions.specs.Operators.{adds}
use Rattle.definitions.specs.Image.{kind_of, payload_of, Expression, constant, boolean, variable, cell, unary, binary}
use Rattle.definitions.specs.Image.{select}
use Rattle.definitions.specs.Reading.{got, read_expression}
use Rattle.definitions.specs.Labels.{is_constant, constant_value, constant_loop, unbounded, sum_below, bounded_sum, bounded_index}
use Rattle.laws.specs.Tests.{or_fails_left, or_fails_right, and_false}
use Rattle.laws.specs.Parses.{ok_of, got_same}
use Rattle.laws.specs.WordTests.{kinds}
use Rattle.laws.specs.ExpressionInversion.{open_constant, open_raw, open_boolean, open_variable, open_cell, open_unary}
use Rattle.laws.specs.ExpressionInversion.{open_expression, open_binary, open_select}

unfoldable pub constant_at : List ℕ → ℕ → Bool
constant_at image at = eqb (kind_of (get_or image at 0)) 7 || eqb (kind_of (get_or image at 0)) 8

-- 0 for any other operand
unfoldable pub value_at : List ℕ → ℕ → ℕ
value_at image at =
    pick (eqb (kind_of (get_or image at 0)) 7) (payload_of (get_or image at 0)) (pick (eqb (kind_of (get_or image at 0)) 8) (get_or image (at + 1) 0) 0)

-- the place behind an operand that is a variable or a constant
unfoldable pub behind_at : List ℕ → ℕ → ℕ
behind_at image at = pick (eqb (kind_of (get_or image at 0)) 8) (at + 2) (at + 1)

-- a variable at i and a constant at c
unfoldable pub sum_at : List ℕ → List ConstantLoop → ℕ → ℕ → ℕ → Bool
sum_at image bounds size i c =
    eqb (kind_of (get_or image i 0)) 10
    && (constant_at image c && sum_below (get_or bounds (payload_of (get_or image i 0)) unbounded) (value_at image c) size)

-- the two operands from a place on, in either order
unfoldable pub either_sum_at : List ℕ → List ConstantLoop → ℕ → ℕ → Bool
either_sum_at image bounds size at = sum_at image bounds size at (behind_at image at) || sum_at image bounds size (behind_at image at) at

-- a binary expression
unfoldable pub addition_at : List ℕ → List ConstantLoop → ℕ → ℕ → Bool
addition_at image bounds size at = adds (payload_of (get_or image at 0)) && either_sum_at image bounds size (at + 1)

unfoldable pub bounded_at : List ℕ → List ConstantLoop → ℕ → ℕ → Bool
bounded_at image bounds size at =
    pick (constant_at image at) (ltb (value_at image at) size)
    (pick (eqb (kind_of (get_or image at 0)) 10) (leb (get_or bounds (payload_of (get_or image at 0)) unbounded).upper size)
    (eqb (kind_of (get_or image at 0)) 13 && addition_at image bounds size at))

-- inside a for whose bounds stand at two places
unfoldable pub inside_at : List ℕ → ℕ → ℕ → ConstantLoop
inside_at image from to =
    pick (constant_at image from && constant_at image to)
    (constant_loop (value_at image to - value_at image from) (value_at image to)) unbounded

-- What the words of an operand and its tree, which ends before n, both say: whether it is a constant, and its value; where it is a variable or a constant,
-- its end; and whether it is a variable whose sum with another operand is bounded.
pub record Says (image : List ℕ) (at : ℕ) (e : Expression) (n : ℕ) : Type 0 where
  pub constants : constant_at image at ≡ is_constant e
  pub values : value_at image at ≡ constant_value e
  pub ends : (eqb (kind_of (get_or image at 0)) 10 || constant_at image at) ≡ true → n ≡ behind_at image at
  pub sums : (c : ℕ) (f : Expression) → constant_at image c ≡ is_constant f → value_at image c ≡ constant_value f
      → (bounds : List ConstantLoop) (size : ℕ) → sum_at image bounds size at c ≡ bounded_sum bounds size e f

module _ (image : List ℕ) (at : ℕ) where
  says_other : (e : Expression) (n k : ℕ) → kind_of (get_or image at 0) ≡ k → eqb k 7 ≡ false → eqb k 8 ≡ false → eqb k 10 ≡ false
      → is_constant e ≡ false → constant_value e ≡ 0 → ((bounds : List ConstantLoop) (size : ℕ) (f : Expression) → bounded_sum bounds size e f ≡ false)
      → Says image at e n
  unfolding constant_at value_at sum_at
  says_other e n k h h7 h8 h10 c v b =
      record {
        constants = rw (h, h7, h8, c);
        values = rw (h, h7, h8, v);
        ends = λ t. absurd (false≢true (rw (h, h7, h8, h10) at t));
        sums = λ _ f _ _ bounds size. rw (h, h10, b bounds size f);
      }

  says_constant : kind_of (get_or image at 0) ≡ 7 → Says image at (constant at (payload_of (get_or image at 0))) (at + 1)
  unfolding constant_at value_at behind_at sum_at is_constant constant_value bounded_sum
  says_constant h = record { constants = rw h; values = rw h; ends = λ _. rw h; sums = λ _ _ _ _ _ _. rw h }

  says_raw : kind_of (get_or image at 0) ≡ 8 → Says image at (constant at (get_or image (at + 1) 0)) (at + 1 + 1)
  unfolding constant_at value_at behind_at sum_at is_constant constant_value bounded_sum
  says_raw h = record { constants = rw h; values = rw h; ends = λ _. rw h (omega arith); sums = λ _ _ _ _ _ _. rw h }

  says_variable : kind_of (get_or image at 0) ≡ 10 → Says image at (variable at (payload_of (get_or image at 0))) (at + 1)
  unfolding constant_at value_at behind_at sum_at is_constant constant_value bounded_sum
  says_variable h = record { constants = rw h; values = rw h; ends = λ _. rw h; sums = λ _ _ c v _ _. rw (h, c, v) }

module _ (l : ℕ) (image : List ℕ) (at : ℕ) (e : Expression) (n : ℕ) (q : read_expression l image at ≡ got e n) where
  -- a law over what can stand at a place, by the kind of its word
  by_kind : (P : Expression → ℕ → Type 0) → (kind_of (get_or image at 0) ≡ 7 → P (constant at (payload_of (get_or image at 0))) (at + 1))
      → (kind_of (get_or image at 0) ≡ 8 → P (constant at (get_or image (at + 1) 0)) (at + 1 + 1))
      → (kind_of (get_or image at 0) ≡ 9 → P (boolean at (payload_of (get_or image at 0))) (at + 1))
      → (kind_of (get_or image at 0) ≡ 10 → P (variable at (payload_of (get_or image at 0))) (at + 1))
      → ((i : Expression) (m : ℕ) → kind_of (get_or image at 0) ≡ 11 → P (cell at (payload_of (get_or image at 0)) i) m)
      → ((i : Expression) (m : ℕ) → kind_of (get_or image at 0) ≡ 12 → P (unary at (payload_of (get_or image at 0)) i) m)
      → ((i j : Expression) (m o : ℕ) → kind_of (get_or image at 0) ≡ 13 → read_expression (l - 1) image (at + 1) ≡ got i m
      → read_expression (l - 1) image m ≡ got j o → P (binary at (payload_of (get_or image at 0)) i j) o)
      → ((c i j : Expression) (m : ℕ) → kind_of (get_or image at 0) ≡ 14 → P (select at c i j) m) → P e n
  by_kind P p7 p8 p9 p10 p11 p12 p13 p14 =
      let t = ok_of _ e n q in
      kinds (get_or image at 0) (open_expression l image at t).2
      (λ k. same _ _ (open_constant l image at t k) (p7 k))
      (λ k. same _ _ (open_raw l image at t k).2 (p8 k))
      (λ k. same _ _ (open_boolean l image at t k) (p9 k))
      (λ k. same _ _ (open_variable l image at t k) (p10 k))
      (λ k. let (i, m, a, r) = open_cell l image at t k in same _ m r (p11 i m k))
      (λ k. let (i, m, a, r) = open_unary l image at t k in same _ m r (p12 i m k))
      (λ k. let (i, m, j, o, a, b, r) = open_binary l image at t k in same _ o r (p13 i j m o k a b))
      (λ k. let (c, m, i, o, j, z, a, b, d, r) = open_select l image at t k in same _ z r (p14 c i j z k))
    where
      same : (f : Expression) (m : ℕ) → read_expression l image at ≡ got f m → P f m → P e n
      same f m r p = let (g, h) = got_same (read_expression l image at) e f n m q r in rw (g, h) p

  pub operand_words : Says image at e n
  unfolding is_constant constant_value bounded_sum
  operand_words =
      let p = payload_of (get_or image at 0) in
      by_kind (λ f m. Says image at f m) (says_constant image at) (says_raw image at)
      (λ k. says_other image at (boolean at p) (at + 1) 9 k refl refl refl refl refl (λ _ _ _. refl))
      (says_variable image at)
      (λ i m k. says_other image at (cell at p i) m 11 k refl refl refl refl refl (λ _ _ _. refl))
      (λ i m k. says_other image at (unary at p i) m 12 k refl refl refl refl refl (λ _ _ _. refl))
      (λ i j m o k _ _. says_other image at (binary at p i j) o 13 k refl refl refl refl refl (λ _ _ _. refl))
      (λ c i j m k. says_other image at (select at c i j) m 14 k refl refl refl refl refl (λ _ _ _. refl))

-- Two operands behind each other, the first at a place: where it is neither a variable nor a constant, no sum is bounded, wherever the second is taken to stand.
module _ (l : ℕ) (image : List ℕ) (at : ℕ) (e f : Expression) (n m : ℕ) (q : read_expression l image at ≡ got e n) (r : read_expression l image n ≡ got f m)
    (bounds : List ConstantLoop) (size : ℕ) where
  second_behind : (plain : Bool) → (eqb (kind_of (get_or image at 0)) 10 || constant_at image at) ≡ plain
      → either_sum_at image bounds size at ≡ (sum_at image bounds size at n || sum_at image bounds size n at)
  unfolding either_sum_at sum_at
  second_behind true t = rw ((operand_words l image at e n q).ends t)
  second_behind false t =
      rw (no_variable (behind_at image at), no_constant (behind_at image at), no_variable n, no_constant n)
    where
      no_variable : (c : ℕ) → sum_at image bounds size at c ≡ false
      no_variable c = rw (or_fails_left (eqb (kind_of (get_or image at 0)) 10) (constant_at image at) t)

      no_constant : (i : ℕ) → sum_at image bounds size i at ≡ false
      no_constant i = rw (or_fails_right (eqb (kind_of (get_or image at 0)) 10) (constant_at image at) t) (and_false (eqb (kind_of (get_or image i 0)) 10) false refl)

  pub sum_words : either_sum_at image bounds size at ≡ (bounded_sum bounds size e f || bounded_sum bounds size f e)
  sum_words =
      let a = operand_words l image at e n q in
      let b = operand_words l image n f m r in
      second_behind _ refl ∙ rw (a.sums n f b.constants b.values bounds size, b.sums at e a.constants a.values bounds size) refl

module _ (l : ℕ) (image : List ℕ) (at : ℕ) (e : Expression) (n : ℕ) (q : read_expression l image at ≡ got e n) (bounds : List ConstantLoop) (size : ℕ) where
  pub index_words : bounded_at image bounds size at ≡ bounded_index bounds size e
  unfolding constant_at value_at addition_at bounded_at bounded_index
  index_words =
      by_kind l image at e n q (λ f _. bounded_at image bounds size at ≡ bounded_index bounds size f)
      (λ k. rw k) (λ k. rw k) (λ k. rw k) (λ k. rw k) (λ i m k. rw k) (λ i m k. rw k)
      (λ i j m o k a b. rw (k, sum_words (l - 1) image (at + 1) i j m o a b bounds size)) (λ c i j m k. rw k)
