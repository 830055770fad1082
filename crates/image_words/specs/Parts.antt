-- The parts of an expression that was read were read too, each where the one before it ends; k is the kind of its word.
-- Assumes nothing.
use Rattle.std.specs.Prelude.{ℕ, ◌+◌, ◌-◌, ◌<◌, ◌≤◌, true, List, ◌≡◌, length, get_or}
use Rattle.std.proofs.Common.{sym, ap, ◌∙◌, arith}
use Rattle.definitions.specs.Image.{kind_of, Expression}
use Rattle.definitions.specs.Reading.{got, read_expression}
use Rattle.laws.specs.Parses.{ok, end_of, ok_of, end_of_lem}
use Rattle.laws.specs.ExpressionInversion.{open_expression, open_raw, open_cell, open_unary, open_binary, open_select}
use Rattle.laws.specs.ExpressionInversion.{last_kind}
use Rattle.image_words.specs.Read.{ExpressionRead, PairRead}

-- what is known of a number is known of the one that it equals
pub told : {k n m : ℕ} → k ≡ n → k ≡ m → n ≡ m
told e h = sym e ∙ h

pub not_told : {k n m : ℕ} → k ≡ n → (k ≡ m → ⊥) → n ≡ m → ⊥
not_told e h q = h (e ∙ q)

pub expression_read : (l : ℕ) (image : List ℕ) (at : ℕ) → ok (read_expression l image at) ≡ true → ExpressionRead l image at
expression_read l image at t =
    let (h, b, g, e) = open_expression l image at t in record { deep = h; within = b; read = t }

pub expression_got : (l : ℕ) (image : List ℕ) (at : ℕ) (e : Expression) (n : ℕ) → read_expression l image at ≡ got e n → ExpressionRead l image at
expression_got l image at e n q = expression_read l image at (ok_of _ e n q)

pub pair_got : (l : ℕ) (image : List ℕ) (at : ℕ) (e f : Expression) (n m : ℕ) → read_expression l image at ≡ got e n
    → read_expression l image n ≡ got f m → PairRead l image at
pair_got l image at e f n m q r =
    record {
      first = expression_got l image at e n q;
      second = expression_got l image (end_of (read_expression l image at)) f m (ap (λ z. read_expression l image z) (end_of_lem _ e n q) ∙ r);
    }

-- a number that is neither below 7 nor above 14
outside : (k : ℕ) → (k ≤ 6 → ⊥) → (15 ≤ k → ⊥) → (6 < k) × (k < 15)
outside k low high = omega arith

module _ (l : ℕ) (image : List ℕ) (at : ℕ) (t : ok (read_expression l image at) ≡ true) (k : ℕ) (hk : k ≡ kind_of (get_or image at 0)) where
  pub read_raw : k ≡ 8 → at + 1 < length image
  read_raw h = (open_raw l image at t (told hk h)).0

  pub read_cell : k ≡ 11 → ExpressionRead (l - 1) image (at + 1)
  read_cell h = let (i, n, e, q) = open_cell l image at t (told hk h) in expression_got (l - 1) image (at + 1) i n e

  pub read_unary : k ≡ 12 → ExpressionRead (l - 1) image (at + 1)
  read_unary h = let (i, n, e, q) = open_unary l image at t (told hk h) in expression_got (l - 1) image (at + 1) i n e

  pub read_binary : k ≡ 13 → PairRead (l - 1) image (at + 1)
  read_binary h =
      let (e, n, f, m, q, r, s) = open_binary l image at t (told hk h) in pair_got (l - 1) image (at + 1) e f n m q r

  pub read_condition : k ≡ 14 → ExpressionRead (l - 1) image (at + 1)
  read_condition h =
      let (c, n, e, m, f, o, q, r, s, u) = open_select l image at t (told hk h) in expression_got (l - 1) image (at + 1) c n q

  pub read_values : k ≡ 14 → (p : ℕ) → p ≡ end_of (read_expression (l - 1) image (at + 1)) → PairRead (l - 1) image p
  read_values h p d =
      let (c, n, e, m, f, o, q, r, s, u) = open_select l image at t (told hk h) in
      rw (d ∙ end_of_lem _ c n q) (pair_got (l - 1) image n e f m o r s)

  -- a kind that is none of the others
  pub is_select : (k ≡ 7 → ⊥) → (k ≡ 8 → ⊥) → (k ≡ 9 → ⊥) → (k ≡ 10 → ⊥) → (k ≡ 11 → ⊥) → (k ≡ 12 → ⊥) → (k ≡ 13 → ⊥) → k ≡ 14
  is_select n7 n8 n9 n10 n11 n12 n13 =
      hk ∙ last_kind l image at t (not_told hk n7) (not_told hk n8) (not_told hk n9) (not_told hk n10) (not_told hk n11) (not_told hk n12) (not_told hk n13)

-- the word where an expression was read has the kind of one
pub kind_there : (l : ℕ) (image : List ℕ) (at w : ℕ) → ExpressionRead l image at → w ≡ get_or image at 0 → (6 < kind_of w) × (kind_of w < 15)
kind_there l image at w r h =
    rw h (outside (kind_of (get_or image at 0))
    (λ x. let e = last_kind l image at r.read (λ y. omega arith) (λ y. omega arith) (λ y. omega arith) (λ y. omega arith) (λ y. omega arith) (λ y. omega arith) (λ y. omega arith) in omega arith)
    (λ x. let e = last_kind l image at r.read (λ y. omega arith) (λ y. omega arith) (λ y. omega arith) (λ y. omega arith) (λ y. omega arith) (λ y. omega arith) (λ y. omega arith) in omega arith))
