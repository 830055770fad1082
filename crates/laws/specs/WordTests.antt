-- What the tests of a word say: its kind, the kind or op that is left where the others are excluded, and its fields'
-- limits. Assumes nothing.
use Rattle.std.specs.Prelude.{◌≡◌, refl, Bool, true, false, ℕ, ◌+◌, ◌/◌, ◌≤◌, ◌<◌, eqb, ltb}
use Rattle.std.proofs.Common.{sym, ◌∙◌}
use borrow.Author.Tests.{eqb-true, ltb-true, leb-true, ne_eqb, le-ltb, eqb-false}
use native.Mathlib.Omega.{arith}
use Rattle.definitions.specs.Choice.{pick}
use Rattle.definitions.specs.Image.{kind_of, payload_of, form_of, arrays_of, procedures_of, header_word, array_length}
use Rattle.definitions.specs.Image.{array_word, mode_of, parameters_of, locals_of, procedure_word, type_word, block_word}
use Rattle.definitions.specs.Image.{raw_word, op_of, target_of, called_of, statement_word, expression_word}
use Rattle.laws.specs.Tests.{or_false, and_left, and_right, conjuncts}

-- ---- expressions

-- an expression's word of none of the kinds 7 to 13 is a select
pub select_kind : (w : ℕ) → expression_word w ≡ true → (kind_of w ≡ 7 → ⊥) → (kind_of w ≡ 8 → ⊥) → (kind_of w ≡ 9 → ⊥) → (kind_of w ≡ 10 → ⊥)
    → (kind_of w ≡ 11 → ⊥) → (kind_of w ≡ 12 → ⊥) → (kind_of w ≡ 13 → ⊥) → kind_of w ≡ 14
unfolding expression_word
select_kind w h n7 n8 n9 n10 n11 n12 n13 =
    eqb-true _ _ (and_left (eqb (kind_of w) 14) (eqb (payload_of w) 0)
    (rw (ne_eqb _ _ n7, ne_eqb _ _ n8, ne_eqb _ _ n9, ne_eqb _ _ n10, ne_eqb _ _ n11, ne_eqb _ _ n12, ne_eqb _ _ n13) at h))

module _ (w : ℕ) (h : expression_word w ≡ true) where
  -- a boolean is 0 or 1, a unary operator below 3, a binary one below 15; kinds 8 and 14 have payload 0
  pub raw_limit : kind_of w ≡ 8 → payload_of w ≡ 0
  unfolding expression_word
  raw_limit k = eqb-true _ _ (sym (or_false (eqb (payload_of w) 0)) ∙ (rw k at h))

  pub boolean_limit : kind_of w ≡ 9 → payload_of w < 2
  unfolding expression_word
  boolean_limit k = ltb-true _ _ (sym (or_false (ltb (payload_of w) 2)) ∙ (rw k at h))

  pub unary_limit : kind_of w ≡ 12 → payload_of w < 3
  unfolding expression_word
  unary_limit k = ltb-true _ _ (sym (or_false (ltb (payload_of w) 3)) ∙ (rw k at h))

  pub binary_limit : kind_of w ≡ 13 → payload_of w < 15
  unfolding expression_word
  binary_limit k = ltb-true _ _ (sym (or_false (ltb (payload_of w) 15)) ∙ (rw k at h))

  pub select_limit : kind_of w ≡ 14 → payload_of w ≡ 0
  unfolding expression_word
  select_limit k = eqb-true _ _ (rw k at h)

-- ---- statements

module _ (me w : ℕ) (h : statement_word me w ≡ true) where
  pub statement_kind : kind_of w ≡ 6
  unfolding statement_word
  statement_kind = eqb-true _ _ (and_left (eqb (kind_of w) 6) _ h)

  -- a statement's word of none of the ops 0 to 4 is a call, of a procedure before this one
  pub call_op : (op_of w ≡ 0 → ⊥) → (op_of w ≡ 1 → ⊥) → (op_of w ≡ 2 → ⊥) → (op_of w ≡ 3 → ⊥) → (op_of w ≡ 4 → ⊥) → op_of w ≡ 5
  unfolding statement_word
  call_op n0 n1 n2 n3 n4 =
      let two : 2 ≤ op_of w = omega arith in
      eqb-true _ _ (and_left (eqb (op_of w) 5) (ltb (called_of w) me)
      (rw (le-ltb _ _ two, ne_eqb _ _ n2, ne_eqb _ _ n3, ne_eqb _ _ n4) at (and_right (eqb (kind_of w) 6) _ h)))

  pub call_limit : op_of w ≡ 5 → called_of w < me
  unfolding statement_word
  call_limit k = ltb-true _ _ (rw k at (and_right (eqb (kind_of w) 6) _ h))

  -- an if and a return are aimed at nothing
  pub if_target : op_of w ≡ 2 → target_of w ≡ 0
  unfolding statement_word
  if_target k = eqb-true _ _ (sym (or_false (eqb (target_of w) 0)) ∙ (rw k at (and_right (eqb (kind_of w) 6) _ h)))

  pub return_target : op_of w ≡ 4 → target_of w ≡ 0
  unfolding statement_word
  return_target k = eqb-true _ _ (sym (or_false (eqb (target_of w) 0)) ∙ (rw k at (and_right (eqb (kind_of w) 6) _ h)))

pub block_kind : (w : ℕ) → block_word w ≡ true → kind_of w ≡ 5
unfolding block_word
block_kind w h = eqb-true _ _ h

-- ---- headers, procedures, types, arrays

pub header_limits : (w : ℕ) → header_word w ≡ true
    → (kind_of w ≡ 1) × (form_of w < 2) × (arrays_of w ≤ 16) × (1 ≤ procedures_of w) × (procedures_of w ≤ 32)
unfolding header_word
header_limits w h = (
  eqb-true _ _ (search conjuncts),
  ltb-true (form_of w) 2 (search conjuncts),
  leb-true (arrays_of w) 16 (search conjuncts),
  leb-true 1 (procedures_of w) (search conjuncts depth 8),
  leb-true (procedures_of w) 32 (search conjuncts depth 8),
)

pub procedure_limits : (form w : ℕ) → procedure_word form w ≡ true
    → (kind_of w ≡ 3) × (mode_of w + form ≤ 1) × (parameters_of w ≤ 8 + form) × (locals_of w ≤ pick (eqb form 0) 64 246)
unfolding procedure_word
procedure_limits form w h = (
  eqb-true _ _ (search conjuncts),
  leb-true (mode_of w + form) 1 (search conjuncts),
  leb-true (parameters_of w) (8 + form) (search conjuncts),
  leb-true (locals_of w) (pick (eqb form 0) 64 246) (search conjuncts),
)

pub most_locals_lem : (form : ℕ) → pick (eqb form 0) 64 246 ≤ 246
most_locals_lem form = go (eqb form 0)
  where
    go : (b : Bool) → pick b 64 246 ≤ 246
    go true = omega arith
    go false = omega arith

pub type_limits : (w : ℕ) → type_word w ≡ true → (kind_of w ≡ 4) × (payload_of w < 4)
unfolding type_word
type_limits w h = (eqb-true _ _ (search conjuncts), ltb-true _ _ (search conjuncts))

pub array_limits : (cells w : ℕ) → array_word cells w ≡ true
    → (kind_of w ≡ 2) × (payload_of w / 65536 < 2) × (1 ≤ array_length w) × (array_length w ≤ 256) × (cells + array_length w ≤ 1024)
unfolding array_word
array_limits cells w h = (
  eqb-true _ _ (search conjuncts),
  ltb-true (payload_of w / 65536) 2 (search conjuncts),
  leb-true 1 (array_length w) (search conjuncts),
  leb-true (array_length w) 256 (search conjuncts depth 8),
  leb-true (cells + array_length w) 1024 (search conjuncts depth 8),
)

pub raw_limits : (w : ℕ) → raw_word w ≡ true → 268435456 ≤ w
unfolding raw_word
raw_limits w h = leb-true _ _ h

-- ---- by cases

-- the kinds of an expression's word, the ops of a statement's
pub kinds : {P : Type 0} (w : ℕ) → expression_word w ≡ true → (kind_of w ≡ 7 → P) → (kind_of w ≡ 8 → P) → (kind_of w ≡ 9 → P) → (kind_of w ≡ 10 → P)
    → (kind_of w ≡ 11 → P) → (kind_of w ≡ 12 → P) → (kind_of w ≡ 13 → P) → (kind_of w ≡ 14 → P) → P
kinds {P} w g f7 f8 f9 f10 f11 f12 f13 f14 =
    split 7 f7 λ n7. split 8 f8 λ n8. split 9 f9 λ n9. split 10 f10 λ n10. split 11 f11 λ n11. split 12 f12 λ n12. split 13 f13 λ n13.
    f14 (select_kind w g n7 n8 n9 n10 n11 n12 n13)
  where
    split : (k : ℕ) → (kind_of w ≡ k → P) → ((kind_of w ≡ k → ⊥) → P) → P
    split k f n = go (eqb (kind_of w) k) refl
      where
        go : (b : Bool) → eqb (kind_of w) k ≡ b → P
        go true e = f (eqb-true _ _ e)
        go false e = n (eqb-false _ _ e)

pub ops : {P : Type 0} (me w : ℕ) → statement_word me w ≡ true → (op_of w ≡ 0 → P) → (op_of w ≡ 1 → P) → (op_of w ≡ 2 → P) → (op_of w ≡ 3 → P)
    → (op_of w ≡ 4 → P) → (op_of w ≡ 5 → P) → P
ops {P} me w g f0 f1 f2 f3 f4 f5 =
    split 0 f0 λ n0. split 1 f1 λ n1. split 2 f2 λ n2. split 3 f3 λ n3. split 4 f4 λ n4. f5 (call_op me w g n0 n1 n2 n3 n4)
  where
    split : (k : ℕ) → (op_of w ≡ k → P) → ((op_of w ≡ k → ⊥) → P) → P
    split k f n = go (eqb (op_of w) k) refl
      where
        go : (b : Bool) → eqb (op_of w) k ≡ b → P
        go true e = f (eqb-true _ _ e)
        go false e = n (eqb-false _ _ e)
