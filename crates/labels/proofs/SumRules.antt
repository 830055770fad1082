-- What each return of the functions over a sum's operands gives. Assumes nothing.
use Prim.Native.Nat.{ℕ, ◌+◌}
use mathlib.Core.Bool.{Bool, true, false, ◌||◌}
use mathlib.Core.List.{List}
use mathlib.Core.Path.{◌≡◌, refl, sym}
use borrow.Author.Tests.{ne_eqb}
use lib.Dec.{leb, eqb}
use lib.ListN.{get_or}
use Rattle.definitions.specs.declared.ConstantLoop.{ConstantLoop}
use Rattle.definitions.specs.Image.{kind_of, payload_of}
use Rattle.definitions.specs.Labels.{unbounded, sum_below}
use Rattle.laws.specs.Tests.{and_false}
use Rattle.labels.specs.Operand.{constant_at, value_at, behind_at, sum_at, either_sum_at, addition_at}

module _ (image : List ℕ) (at : ℕ) where
  pub behind_raw : eqb (kind_of (get_or image at 0)) 8 ≡ true → at + 2 ≡ behind_at image at
  unfolding behind_at
  behind_raw e = rw e

  pub behind_one : eqb (kind_of (get_or image at 0)) 8 ≡ false → at + 1 ≡ behind_at image at
  unfolding behind_at
  behind_one e = rw e

module _ (l : ConstantLoop) (c size : ℕ) where
  pub no_pass : l.passes ≡ 0 → true ≡ sum_below l c size
  no_pass e = rw e

  pub whole_sum : (l.passes ≡ 0 → ⊥) → (u v s : ℕ) → u ≡ l.upper → v ≡ c → s ≡ size → leb (u + v) s ≡ sum_below l c size
  whole_sum n u v s hu hv hs = rw (ne_eqb _ _ n, hu, hv, hs)

module _ (image : List ℕ) (bounds : List ConstantLoop) (size i c : ℕ) where
  pub sum_taken : (v w p : ℕ) (l : ConstantLoop) (k r : Bool) → true ≡ constant_at image c → v ≡ value_at image c → w ≡ get_or image i 0
      → k ≡ eqb (kind_of w) 10 → k ≡ true → p ≡ payload_of w → l ≡ get_or bounds p unbounded → r ≡ sum_below l v size → r ≡ sum_at image bounds size i c
  unfolding sum_at
  sum_taken v w p l k r t hv hw hk e hp hl hr = rw (← hw, ← hk, e, ← t, ← hp, ← hl, ← hv, hr)

  pub sum_no_variable : eqb (kind_of (get_or image i 0)) 10 ≡ false → false ≡ sum_at image bounds size i c
  unfolding sum_at
  sum_no_variable k = rw k

  pub sum_no_constant : false ≡ constant_at image c → false ≡ sum_at image bounds size i c
  unfolding sum_at
  sum_no_constant t = rw (← t) (sym (and_false (eqb (kind_of (get_or image i 0)) 10) false refl))

pub ruleset sums = (sum_taken, sum_no_variable, sum_no_constant)

module _ (image : List ℕ) (bounds : List ConstantLoop) (size at p : ℕ) (hp : p ≡ payload_of (get_or image at 0)) where
  pub addition : p ≡ 0 → (n : ℕ) → n ≡ behind_at image (at + 1) → (a b : Bool) → a ≡ sum_at image bounds size (at + 1) n → b ≡ sum_at image bounds size n (at + 1)
      → (a || b) ≡ addition_at image bounds size at
  unfolding either_sum_at addition_at
  addition z n hn a b ha hb = rw (← hp, z, ← hn, ha, hb)

  pub no_addition : (p ≡ 0 → ⊥) → false ≡ addition_at image bounds size at
  unfolding addition_at
  no_addition n = rw (← hp, ne_eqb _ _ n)
