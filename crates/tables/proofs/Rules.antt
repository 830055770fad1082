-- The ways in which the functions over the table return. Assumes nothing.
use Prim.Native.Nat.{ℕ, ◌+◌, ◌≤◌, ◌<◌}
use mathlib.Core.List.{List}
use mathlib.Core.Path.{◌≡◌, sym, ap, ◌∙◌}
use native.Mathlib.Omega.{arith}
use lib.ListN.{length, get_or, set, drop, length-take, get_or-eq_default}
use lib.Seq.{get_or-take, get_or-drop}
use borrow.Author.Tests.{le-ltb, lt-ltb}
use lib.Dec.{eqb}
use Rattle.definitions.specs.Image.{mode_of, parameters_of, locals_of, type_sort, guarded}
use Rattle.definitions.specs.Sorts.{sort_of}
use Rattle.tables.specs.Table.{arrays_in, place_in}
use Rattle.tables.specs.Looking.{Listed, procedure_in, known_mode, known_types, known_type, known_result}

-- an element at a number that was cast
pub cast_at : (t : List ℕ) (k a w r : ℕ) → w ≡ a → r ≡ get_or t (k + w) 0 → r ≡ get_or t (k + a) 0
cast_at t k a w r e h = h ∙ ap (λ (i : ℕ). get_or t (k + i) 0) e

pub cast_drop : (t : List ℕ) (k a w r : ℕ) → w ≡ a → r ≡ get_or t (k + w) 0 → r ≡ get_or (drop k t) a 0
cast_drop t k a w r e h = cast_at t k a w r e h ∙ sym (get_or-drop k t a 0)

pub array_there : (t : List ℕ) (a w n r : ℕ) → w ≡ a → n ≡ get_or t 32 0 → w < n → r ≡ get_or t w 0 → r ≡ get_or (arrays_in t) a 0
array_there t a w n r e c h g =
    let i : a < get_or t 32 0 = omega arith in g ∙ ap (λ (i : ℕ). get_or t i 0) e ∙ sym (get_or-take (get_or t 32 0) t a 0 i)

pub array_none : (t : List ℕ) (a w n : ℕ) → w ≡ a → n ≡ get_or t 32 0 → n ≤ w → ◌≡◌ {A = ℕ} 0 (get_or (arrays_in t) a 0)
array_none t a w n e c h =
    let l = length-take (get_or t 32 0) t in sym (get_or-eq_default (arrays_in t) 0 (omega arith))

-- three stores at a number that was cast
pub stored : (t : List ℕ) (i j k n m x y z : ℕ) → m ≡ n → set (set (set t (i + m) x) (j + m) y) (k + m) z ≡ set (set (set t (i + n) x) (j + n) y) (k + n) z
stored t i j k n m x y z e = ap (λ (o : ℕ). set (set (set t (i + o) x) (j + o) y) (k + o) z) e

pub stored_array : (t : List ℕ) (j k n m x y z : ℕ) → m ≡ n → set (set (set t m x) (j + m) y) k z ≡ set (set (set t n x) (j + n) y) k z
stored_array t j k n m x y z e = ap (λ (o : ℕ). set (set (set t o x) (j + o) y) k z) e

-- ---- what the procedure's words say

module _ (image table : List ℕ) (f : ℕ) (l : Listed image table f) (w : ℕ) (hw : w ≡ get_or image (place_in table f) 0) where
  pub guarded_told : (m : ℕ) → m ≡ mode_of w → eqb m 1 ≡ guarded (procedure_in image f)
  guarded_told m hm = ap (λ (n : ℕ). eqb n 1) (hm ∙ ap mode_of hw ∙ sym (known_mode image table l.known f l.number))

  module _ (k n : ℕ) (hn : n ≡ parameters_of w + locals_of w) where
    size : n ≡ length (procedure_in image f).types
    size = hn ∙ ap (λ (z : ℕ). parameters_of z + locals_of z) hw ∙ sym (known_types image table l.known f l.number)

    pub type_none : n ≤ k → ◌≡◌ {A = ℕ} 0 (get_or (procedure_in image f).types k 0)
    type_none h = let e = size in sym (get_or-eq_default (procedure_in image f).types 0 (omega arith))

    pub sort_none : n ≤ k → ◌≡◌ {A = ℕ} 2 (sort_of (procedure_in image f).types k)
    sort_none h = let e = size in rw (le-ltb k (length (procedure_in image f).types) (omega arith))

    module _ (h : k < n) (p i r : ℕ) (hp : p ≡ place_in table f) (hi : i ≡ k) (hr : r ≡ get_or image (p + 1 + 1 + i) 0) where
      pub type_there : r ≡ get_or (procedure_in image f).types k 0
      type_there =
          let e = size in
          hr ∙ ap (λ (z : ℕ). get_or image (z + 1 + 1 + i) 0) hp ∙ ap (λ (z : ℕ). get_or image (place_in table f + 1 + 1 + z) 0) hi
          ∙ sym (known_type image table l.known f l.number k (omega arith))

      pub sort_there : (s : ℕ) → s ≡ type_sort r → s ≡ sort_of (procedure_in image f).types k
      sort_there s hs =
          let e = size in rw (lt-ltb k (length (procedure_in image f).types) (omega arith)) (hs ∙ ap type_sort type_there)

pub result_told : (image table : List ℕ) (f : ℕ) → Listed image table f → (p r : ℕ) → p ≡ place_in table f → r ≡ get_or image (p + 1) 0
    → r ≡ (procedure_in image f).result
result_told image table f l p r hp hr =
    hr ∙ ap (λ (z : ℕ). get_or image (z + 1) 0) hp ∙ sym (known_result image table l.known f l.number)
