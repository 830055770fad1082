-- An expression that was read, opened: one law a kind says what its parts are, where they were read, and what tree they make.
-- A pass over words knows of an expression no more than this. Assumes nothing.
use Rattle.std.specs.Prelude.{◌≡◌, refl, true, List, [], ◌∷◌, ℕ, zero, suc, ◌+◌, ◌-◌, ◌≤◌, ◌<◌, length, get_or}
use Rattle.std.proofs.Common.{sym, ap, ◌∙◌, arith}
use Rattle.definitions.specs.Image.{kind_of, payload_of, expression_word, raw_word, Expression, constant, boolean, variable}
use Rattle.definitions.specs.Image.{cell, unary, binary, select}
use Rattle.definitions.specs.Reading.{got, refused, Reader, on_word, expression_at, read_expression, read_arguments}
use Rattle.laws.specs.Tests.{false_true}
use Rattle.laws.specs.Parses.{ok, on_ok, open_one, open_two, open_three}
use Rattle.laws.specs.WordTests.{select_kind}

-- the word tested, then its kind
pub expression_step : (l : ℕ) (image : List ℕ) (at : ℕ) → 1 ≤ l
    → read_expression l image at ≡ on_word image at expression_word (λ w. expression_at (λ a. read_expression (l - 1) image a) image at w)
unfolding read_expression
expression_step zero image at h = absurd (omega arith)
expression_step (suc l) image at h = let e : suc l - 1 ≡ l = omega arith in rw e

-- no level is left: nothing is read
expression_none : (image : List ℕ) (at : ℕ) → ok (read_expression 0 image at) ≡ true → ⊥
unfolding read_expression ok
expression_none image at t =
    let (h, g, e) = on_ok {A = Expression} image at expression_word (λ w. refused 5 at) t in false_true (sym (ap ok e) ∙ t)

-- what every expression that was read has
pub open_expression : (l : ℕ) (image : List ℕ) (at : ℕ) → ok (read_expression l image at) ≡ true
    → (1 ≤ l) × (at < length image) × (expression_word (get_or image at 0) ≡ true)
    × (read_expression l image at ≡ expression_at (λ a. read_expression (l - 1) image a) image at (get_or image at 0))
open_expression zero image at t = absurd (expression_none image at t)
open_expression (suc l) image at t =
    let s = expression_step (suc l) image at (omega arith) in
    let (h, g, e) = on_ok image at expression_word (λ w. expression_at (λ a. read_expression (suc l - 1) image a) image at w) (ap ok (sym s) ∙ t) in
    (omega arith, h, g, s ∙ e)

module _ (l : ℕ) (image : List ℕ) (at : ℕ) (t : ok (read_expression l image at) ≡ true) where
  pub open_constant : kind_of (get_or image at 0) ≡ 7 → read_expression l image at ≡ got (constant at (payload_of (get_or image at 0))) (at + 1)
  open_constant k = (open_expression l image at t).3 ∙ rw k

  pub open_raw : kind_of (get_or image at 0) ≡ 8
      → (at + 1 < length image) × (raw_word (get_or image (at + 1) 0) ≡ true)
      × (read_expression l image at ≡ got (constant at (get_or image (at + 1) 0)) (at + 1 + 1))
  open_raw k =
      let e : read_expression l image at ≡ on_word image (at + 1) raw_word (λ v. got (constant at v) (at + 1 + 1)) = (open_expression l image at t).3 ∙ rw k in
      let (h, g, q) = on_ok image (at + 1) raw_word (λ v. got (constant at v) (at + 1 + 1)) (ap ok (sym e) ∙ t) in
      (h, g, e ∙ q)

  pub open_boolean : kind_of (get_or image at 0) ≡ 9 → read_expression l image at ≡ got (boolean at (payload_of (get_or image at 0))) (at + 1)
  open_boolean k = (open_expression l image at t).3 ∙ rw k

  pub open_variable : kind_of (get_or image at 0) ≡ 10 → read_expression l image at ≡ got (variable at (payload_of (get_or image at 0))) (at + 1)
  open_variable k = (open_expression l image at t).3 ∙ rw k

  pub open_cell : kind_of (get_or image at 0) ≡ 11
      → (i : Expression) × (n : ℕ) × (read_expression (l - 1) image (at + 1) ≡ got i n)
      × (read_expression l image at ≡ got (cell at (payload_of (get_or image at 0)) i) n)
  open_cell k =
      open_one (read_expression l image at) (read_expression (l - 1) image (at + 1)) (λ i. cell at (payload_of (get_or image at 0)) i)
      ((open_expression l image at t).3 ∙ rw k) t

  pub open_unary : kind_of (get_or image at 0) ≡ 12
      → (e : Expression) × (n : ℕ) × (read_expression (l - 1) image (at + 1) ≡ got e n)
      × (read_expression l image at ≡ got (unary at (payload_of (get_or image at 0)) e) n)
  open_unary k =
      open_one (read_expression l image at) (read_expression (l - 1) image (at + 1)) (λ e. unary at (payload_of (get_or image at 0)) e)
      ((open_expression l image at t).3 ∙ rw k) t

  pub open_binary : kind_of (get_or image at 0) ≡ 13
      → (e : Expression) × (n : ℕ) × (f : Expression) × (m : ℕ)
      × (read_expression (l - 1) image (at + 1) ≡ got e n) × (read_expression (l - 1) image n ≡ got f m)
      × (read_expression l image at ≡ got (binary at (payload_of (get_or image at 0)) e f) m)
  open_binary k =
      open_two (read_expression l image at) (read_expression (l - 1) image (at + 1)) (λ a. read_expression (l - 1) image a)
      (λ e f. binary at (payload_of (get_or image at 0)) e f) ((open_expression l image at t).3 ∙ rw k) t

  pub open_select : kind_of (get_or image at 0) ≡ 14
      → (c : Expression) × (n : ℕ) × (e : Expression) × (m : ℕ) × (f : Expression) × (o : ℕ)
      × (read_expression (l - 1) image (at + 1) ≡ got c n) × (read_expression (l - 1) image n ≡ got e m) × (read_expression (l - 1) image m ≡ got f o)
      × (read_expression l image at ≡ got (select at c e f) o)
  open_select k =
      open_three (read_expression l image at) (read_expression (l - 1) image (at + 1)) (λ a. read_expression (l - 1) image a)
      (λ a. read_expression (l - 1) image a) (λ c e f. select at c e f) ((open_expression l image at t).3 ∙ rw k) t

  -- the kind that is left where no other is
  pub last_kind : (kind_of (get_or image at 0) ≡ 7 → ⊥) → (kind_of (get_or image at 0) ≡ 8 → ⊥) → (kind_of (get_or image at 0) ≡ 9 → ⊥)
      → (kind_of (get_or image at 0) ≡ 10 → ⊥) → (kind_of (get_or image at 0) ≡ 11 → ⊥) → (kind_of (get_or image at 0) ≡ 12 → ⊥)
      → (kind_of (get_or image at 0) ≡ 13 → ⊥) → kind_of (get_or image at 0) ≡ 14
  last_kind = select_kind (get_or image at 0) (open_expression l image at t).2

  pub open_last_kind : (kind_of (get_or image at 0) ≡ 7 → ⊥) → (kind_of (get_or image at 0) ≡ 8 → ⊥) → (kind_of (get_or image at 0) ≡ 9 → ⊥)
      → (kind_of (get_or image at 0) ≡ 10 → ⊥) → (kind_of (get_or image at 0) ≡ 11 → ⊥) → (kind_of (get_or image at 0) ≡ 12 → ⊥)
      → (kind_of (get_or image at 0) ≡ 13 → ⊥)
      → (c : Expression) × (n : ℕ) × (e : Expression) × (m : ℕ) × (f : Expression) × (o : ℕ)
      × (read_expression (l - 1) image (at + 1) ≡ got c n) × (read_expression (l - 1) image n ≡ got e m) × (read_expression (l - 1) image m ≡ got f o)
      × (read_expression l image at ≡ got (select at c e f) o)
  open_last_kind n7 n8 n9 n10 n11 n12 n13 = open_select (last_kind n7 n8 n9 n10 n11 n12 n13)

-- ---- the values of a call

pub open_no_argument : (operand : Reader Expression) (at : ℕ) → read_arguments zero operand at ≡ got [] at
unfolding read_arguments
open_no_argument operand at = refl

pub open_argument : (n : ℕ) (operand : Reader Expression) (at : ℕ) → ok (read_arguments (suc n) operand at) ≡ true
    → (e : Expression) × (m : ℕ) × (es : List Expression) × (o : ℕ)
    × (operand at ≡ got e m) × (read_arguments n operand m ≡ got es o) × (read_arguments (suc n) operand at ≡ got (e ∷ es) o)
unfolding read_arguments
open_argument n operand at t =
    open_two (read_arguments (suc n) operand at) (operand at) (λ m. read_arguments n operand m) (λ e es. e ∷ es) refl t
