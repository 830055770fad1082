-- Variables that are renumbered keep their types and what the fors make of them. Assumes nothing.
use Rattle.std.specs.Prelude.{ℕ, ◌+◌, ◌≤◌, ◌<◌, Bool, true, false, List, ◌≡◌, ltb, eqb, length, get_or, set}
use Rattle.std.proofs.Math.Path.{refl, ap, sym}
use Rattle.std.proofs.Common.{◌∙◌, arith, length-set, get_or-set_same, get_or-set_other, lt-ltb, ltb-true, ltb-false, eqb-true}
use Rattle.std.proofs.lemmas.Bool.{eqb-false}
use Rattle.definitions.specs.Choice.{pick}
use Rattle.definitions.specs.Image.{type_secret, Expression}
use Rattle.definitions.specs.Sorts.{sort_of, sort_in}
use Rattle.definitions.specs.Labels.{secret_in}
use Rattle.definitions.specs.Compiling.{renamed, moved}
use Rattle.readback.specs.Good.{GoodExpression, good_constant, good_boolean, good_variable, good_cell, good_unary}
use Rattle.readback.specs.Good.{good_binary, good_select}

-- a variable that none of the first n is renumbered to
abbrev pub Fresh : ℕ → ℕ → ℕ → Type 0
Fresh first n y = (x : ℕ) → x < n → renamed first x ≡ y → ⊥

-- one that the compiler adds to them, with its type word
abbrev pub Added : ℕ → ℕ → List ℕ → ℕ → ℕ → Type 0
Added first n types' y t = (y < length types') × Fresh first n y × (get_or types' y 0 ≡ t)

pub renamed_one : (first x y : ℕ) → renamed first x ≡ renamed first y → x ≡ y
renamed_one first x y = go (ltb x first) refl (ltb y first) refl
  where
    go : (a : Bool) → ltb x first ≡ a → (b : Bool) → ltb y first ≡ b → pick a x (x + 1) ≡ pick b y (y + 1) → x ≡ y
    go true h true g e = e
    go true h false g e = let z = ltb-true x first h in let w = ltb-false y first g in absurd (omega arith)
    go false h true g e = let z = ltb-false x first h in let w = ltb-true y first g in absurd (omega arith)
    go false h false g e = omega arith

pub renamed_le : (first x : ℕ) → renamed first x ≤ x + 1
renamed_le first x = go (ltb x first)
  where
    go : (a : Bool) → pick a x (x + 1) ≤ x + 1
    go true = omega arith
    go false = omega arith

-- marks of n variables, and of the variables that they are renumbered to; all others are ordinary
pub record Marked (first n : ℕ) (marks marks' : List ℕ) : Type 0 where
  pub old : (x : ℕ) → x < n → get_or marks' (renamed first x) 0 ≡ get_or marks x 0
  pub new : (y : ℕ) → Fresh first n y → ◌≡◌ {A = ℕ} (get_or marks' y 0) 0
  pub size : length marks ≡ 256
  pub size' : length marks' ≡ 256

pub marked_set : {first n : ℕ} {marks marks' : List ℕ} → n < 256 → Marked first n marks marks' → (x v : ℕ) → x < n → Marked first n (set marks x v) (set marks' (renamed first x) v)
marked_set {first} {n} {marks} {marks'} small m x v h =
    record { old = λ y g. old y g (eqb y x) refl; new = new; size = length-set marks x v ∙ m.size; size' = length-set marks' (renamed first x) v ∙ m.size' }
  where
    old : (y : ℕ) → y < n → (b : Bool) → eqb y x ≡ b → get_or (set marks' (renamed first x) v) (renamed first y) 0 ≡ get_or (set marks x v) y 0
    old y g true e =
        let z : y ≡ x = eqb-true y x e in
        let s = m.size in
        let s' = m.size' in
        let r = renamed_le first x in
        rw z (get_or-set_same marks' (renamed first x) v 0 (omega arith) ∙ sym (get_or-set_same marks x v 0 (omega arith)))
    old y g false e =
        let d = eqb-false y x e in
        get_or-set_other marks' (renamed first x) (renamed first y) v 0 (λ q. d (renamed_one first y x q)) ∙ m.old y g ∙ sym (get_or-set_other marks x y v 0 d)

    new : (y : ℕ) → Fresh first n y → ◌≡◌ {A = ℕ} (get_or (set marks' (renamed first x) v) y 0) 0
    new y f = get_or-set_other marks' (renamed first x) y v 0 (λ q. f x h (sym q)) ∙ m.new y f

module _ (arrays types types' : List ℕ) (first : ℕ)
    (typed : (x : ℕ) → x < length types → get_or types' (renamed first x) 0 ≡ get_or types x 0)
    (room : (x : ℕ) → x < length types → renamed first x < length types') where
  pub renamed_sort : (x : ℕ) → x < length types → sort_of types' (renamed first x) ≡ sort_of types x
  renamed_sort x h = rw (lt-ltb (renamed first x) (length types') (room x h), lt-ltb x (length types) h, typed x h)

  module _ (marks : List ℕ) where
    pub moved_sort : {e : Expression} → GoodExpression types arrays marks e → sort_in types' (moved first e) ≡ sort_in types e
    unfolding sort_in moved
    moved_sort good_constant = refl
    moved_sort (good_boolean h) = refl
    moved_sort (good_variable {x = x} h m) = renamed_sort x h
    moved_sort (good_cell h g s l) = refl
    moved_sort (good_unary h g s) = refl
    moved_sort (good_binary h g g' s s' l l') = refl
    moved_sort (good_select g g' g'' s s') = moved_sort g'

    pub moved_secret : {e : Expression} → GoodExpression types arrays marks e → secret_in types' arrays (moved first e) ≡ secret_in types arrays e
    unfolding secret_in moved
    moved_secret good_constant = refl
    moved_secret (good_boolean h) = refl
    moved_secret (good_variable {x = x} h m) = ap type_secret (typed x h)
    moved_secret (good_cell h g s l) = rw (moved_secret g)
    moved_secret (good_unary h g s) = moved_secret g
    moved_secret (good_binary h g g' s s' l l') = rw (moved_secret g, moved_secret g')
    moved_secret (good_select g g' g'' s s') = rw (moved_secret g, moved_secret g', moved_secret g'')

    module _ (marks' : List ℕ) (marked : Marked first (length types) marks marks') where
      pub moved_good : {e : Expression} → GoodExpression types arrays marks e → GoodExpression types' arrays marks' (moved first e)
      unfolding moved
      moved_good good_constant = good_constant
      moved_good (good_boolean h) = good_boolean h
      moved_good (good_variable {x = x} h m) = good_variable (room x h) (rw (marked.old x h) m)
      moved_good (good_cell h g s l) = good_cell h (moved_good g) (moved_sort g ∙ s) (moved_secret g ∙ l)
      moved_good (good_unary h g s) = good_unary h (moved_good g) (moved_sort g ∙ s)
      moved_good (good_binary h g g' s s' l l') =
          good_binary h (moved_good g) (moved_good g') (moved_sort g ∙ s) (moved_sort g' ∙ s') (rw (moved_secret g) l) (rw (moved_secret g') l')
      moved_good (good_select g g' g'' s s') =
          good_select (moved_good g) (moved_good g') (moved_good g'') (moved_sort g ∙ s) (moved_sort g'' ∙ s' ∙ sym (moved_sort g'))
