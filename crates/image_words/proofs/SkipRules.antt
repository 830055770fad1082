-- The number of operands by kind, and each turn of the loop that passes over expressions. Assumes nothing.
use mathlib.Core.Path.{◌≡◌, sym, ap, ◌∙◌}
use mathlib.Core.List.{List}
use Prim.Native.Nat.{ℕ, ◌+◌, ◌-◌, ◌≤◌, ◌<◌}
use native.Mathlib.Omega.{arith}
use borrow.Author.Tests.{ne_eqb}
use lib.ListN.{length, get_or}
use Rattle.definitions.specs.Image.{kind_of}
use Rattle.image_words.specs.Skipping.{operand_count, word_count, Row, none, Skippable, row_end, row_within, row_kind, row_bound, row_next}

-- of a row of `count` expressions at a place, `left` are still to be passed over, from `a` on
unfoldable pub Passing : List ℕ → ℕ → ℕ → ℕ → ℕ → Type 0
Passing image count at left a = Skippable image count at × ((b : ℕ) → Row image count at b → Row image left a b)

pub passing_first : (image : List ℕ) (count at : ℕ) → Skippable image count at → Passing image count at count at
unfolding Passing
passing_first image count at s = (s, λ b r. r)

pub passing_within : (image : List ℕ) (count at left a : ℕ) → Passing image count at left a → 0 < left → a < length image
unfolding Passing Skippable
passing_within image count at left a y h = let ((b, r), rest) = y in row_within (rest b r) h

pub passing_kind : (image : List ℕ) (count at left a w : ℕ) → Passing image count at left a → 0 < left → w ≡ get_or image a 0
    → (6 < kind_of w) × (kind_of w < 15)
unfolding Passing Skippable
passing_kind image count at left a w y h hw = let ((b, r), rest) = y in row_kind (rest b r) h w hw

module _ (image : List ℕ) (count at left a w k n m : ℕ) (y : Passing image count at left a) (h : 0 < left) (hw : w ≡ get_or image a 0) (hk : kind_of w ≡ k) where
  next : (b : ℕ) → Row image count at b → Row image (left - 1 + operand_count k) (a + word_count k) b
  unfolding Passing
  next b r = row_next image left a b k (y.1 b r) h (sym hk ∙ ap kind_of hw)

  pub passing_raw : k ≡ 8 → n ≡ left - 1 → m ≡ a + 2 → Passing image count at n m
  unfolding Passing
  passing_raw raw e f = rw (e, f) (y.0, λ b r. let x : Row image (left - 1 + operand_count 8) (a + word_count 8) b = rw raw at (next b r) in let z : left - 1 + 0 ≡ left - 1 = omega arith in rw z at x)

  pub passing_other : (k ≡ 8 → ⊥) → (p : ℕ) → p ≡ operand_count k → n ≡ left - 1 + p → m ≡ a + 1 → Passing image count at n m
  unfolding Passing
  passing_other other p hp e f = rw (e, f) (y.0, λ b r. let z : Row image (left - 1 + operand_count k) (a + 1) b = rw (ne_eqb k 8 other) at (next b r) in rw hp z)

-- where something was left before a turn, what is left behind it, and its place, stay within the image
pub passing_room : (image : List ℕ) (count at left a n m : ℕ) → Passing image count at left a → 0 < left → Passing image count at n m → n + m ≤ length image
unfolding Passing Skippable
passing_room image count at left a n m y h x =
    let ((b, r), rest) = y in
    let (few, last) = row_bound (rest b r) in
    let (fits, more) = row_bound (x.1 b r) in
    let end = last h in
    omega arith

pub passing_last : (image : List ℕ) (count at left a : ℕ) → Passing image count at left a → left ≤ 0 → Row image count at a
unfolding Passing Skippable
passing_last image count at left a y h =
    let ((b, r), rest) = y in
    let z : left ≡ 0 = omega arith in
    let x : Row image 0 a b = rw z at (rest b r) in
    rw (row_end none x) r
