-- What each return of the walk over an expression gives, and what its calls ask. Assumes nothing.
use Prim.Native.Nat.{ℕ, ◌+◌, ◌-◌}
use mathlib.Core.Bool.{Bool, false, ◌||◌}
use mathlib.Core.List.{List}
use mathlib.Core.Path.{◌≡◌, refl, ap, ◌∙◌}
use lib.ListN.{get_or}
use Rattle.definitions.specs.Image.{kind_of, payload_of, type_secret, array_secret, Expression, cell, unary, binary, select}
use Rattle.definitions.specs.Reading.{Parse, got, refused, read_expression}
use Rattle.definitions.specs.Labels.{secret_in}
use Rattle.laws.specs.Parses.{end_of, end_of_lem}
use Rattle.laws.specs.ExpressionInversion.{open_constant, open_raw, open_boolean, open_variable, open_cell, open_unary}
use Rattle.laws.specs.ExpressionInversion.{open_binary, open_select}
use Rattle.image_words.specs.Read.{ExpressionRead, PairRead}
use Rattle.image_words.specs.Parts.{kind_there, read_cell, read_unary, read_binary, read_condition, read_values}
use Rattle.contexts.specs.Context.{sight, seen, seen_two}
use Rattle.contexts.specs.declared.Seen.{Seen}

-- a label, by a word that was looked up
pub type_label : (types : List ℕ) (x i w : ℕ) (r : Bool) → i ≡ x → w ≡ get_or types i 0 → r ≡ type_secret w → r ≡ type_secret (get_or types x 0)
type_label types x i w r e f g = g ∙ ap type_secret (f ∙ ap (λ (n : ℕ). get_or types n 0) e)

pub seen_end : (types arrays : List ℕ) (x : Parse Expression) → (seen types arrays x).next ≡ end_of x
unfolding seen end_of
seen_end types arrays (got e n) = refl
seen_end types arrays (refused n p) = refl

pub seen_next : (types arrays : List ℕ) (x : Parse Expression) (r : Seen) → r ≡ seen types arrays x → r.next ≡ end_of x
seen_next types arrays x r e = ap (λ (z : Seen). z.next) e ∙ seen_end types arrays x

-- what the calls ask
module _ (l : ℕ) (image : List ℕ) (at : ℕ) (t : ExpressionRead l image at) where
  pub index_fine : kind_of (get_or image at 0) ≡ 11 → ExpressionRead (l - 1) image (at + 1)
  index_fine h = read_cell l image at t.read _ refl h

  pub operand_fine : kind_of (get_or image at 0) ≡ 12 → ExpressionRead (l - 1) image (at + 1)
  operand_fine h = read_unary l image at t.read _ refl h

  pub operands_fine : kind_of (get_or image at 0) ≡ 13 → PairRead (l - 1) image (at + 1)
  operands_fine h = read_binary l image at t.read _ refl h

  pub condition_fine : kind_of (get_or image at 0) ≡ 14 → ExpressionRead (l - 1) image (at + 1)
  condition_fine h = read_condition l image at t.read _ refl h

module _ (types arrays : List ℕ) (l : ℕ) (image : List ℕ) (at : ℕ) (t : ExpressionRead l image at) where
  pub see_constant : kind_of (get_or image at 0) ≡ 7 → sight false (at + 1) ≡ seen types arrays (read_expression l image at)
  unfolding seen secret_in
  see_constant h = rw (open_constant l image at t.read h)

  pub see_raw : kind_of (get_or image at 0) ≡ 8 → sight false (at + 1 + 1) ≡ seen types arrays (read_expression l image at)
  unfolding seen secret_in
  see_raw h = rw (open_raw l image at t.read h).2

  pub see_boolean : kind_of (get_or image at 0) ≡ 9 → sight false (at + 1) ≡ seen types arrays (read_expression l image at)
  unfolding seen secret_in
  see_boolean h = rw (open_boolean l image at t.read h)

  pub see_variable : (s : Bool) (p : ℕ) → kind_of (get_or image at 0) ≡ 10 → p ≡ payload_of (get_or image at 0) → s ≡ type_secret (get_or types p 0)
      → sight s (at + 1) ≡ seen types arrays (read_expression l image at)
  unfolding seen secret_in
  see_variable s p h hp e = rw (open_variable l image at t.read h, e, hp)

  pub see_cell : (s : Bool) (p : ℕ) (r : Seen) → kind_of (get_or image at 0) ≡ 11 → p ≡ payload_of (get_or image at 0) → s ≡ array_secret (get_or arrays p 0)
      → r ≡ seen types arrays (read_expression (l - 1) image (at + 1)) → sight (s || r.secret) r.next ≡ seen types arrays (read_expression l image at)
  unfolding seen secret_in
  see_cell s p r d hp e h = let (i, n, q, u) = open_cell l image at t.read d in go i n q u
    where
      go : (i : Expression) (n : ℕ) → read_expression (l - 1) image (at + 1) ≡ got i n
          → read_expression l image at ≡ got (cell at (payload_of (get_or image at 0)) i) n
          → sight (s || r.secret) r.next ≡ seen types arrays (read_expression l image at)
      go i n q u = rw (u, h, q, e, hp)

  pub see_unary : (r : Seen) → kind_of (get_or image at 0) ≡ 12
      → r ≡ seen types arrays (read_expression (l - 1) image (at + 1)) → r ≡ seen types arrays (read_expression l image at)
  unfolding seen secret_in
  see_unary r d h = let (i, n, q, u) = open_unary l image at t.read d in go i n q u
    where
      go : (i : Expression) (n : ℕ) → read_expression (l - 1) image (at + 1) ≡ got i n
          → read_expression l image at ≡ got (unary at (payload_of (get_or image at 0)) i) n → r ≡ seen types arrays (read_expression l image at)
      go i n q u = rw (u, h, q)

  pub see_binary : (r : Seen) → kind_of (get_or image at 0) ≡ 13
      → r ≡ seen_two types arrays (read_expression (l - 1) image (at + 1)) (read_expression (l - 1) image (end_of (read_expression (l - 1) image (at + 1))))
      → r ≡ seen types arrays (read_expression l image at)
  unfolding seen seen_two secret_in
  see_binary r d h = let (e, n, f, m, q, s, u) = open_binary l image at t.read d in go e n f m q s u
    where
      go : (e : Expression) (n : ℕ) (f : Expression) (m : ℕ) → read_expression (l - 1) image (at + 1) ≡ got e n → read_expression (l - 1) image n ≡ got f m
          → read_expression l image at ≡ got (binary at (payload_of (get_or image at 0)) e f) m → r ≡ seen types arrays (read_expression l image at)
      go e n f m q s u = rw (u, h, end_of_lem _ e n q, q, s)

  module _ (d : kind_of (get_or image at 0) ≡ 14) (c : Seen) (h : c ≡ seen types arrays (read_expression (l - 1) image (at + 1))) where
    pub values_fine : PairRead (l - 1) image c.next
    values_fine = read_values l image at t.read _ refl d c.next (seen_next types arrays _ c h)

    pub see_select : (r : Seen) → r ≡ seen_two types arrays (read_expression (l - 1) image c.next) (read_expression (l - 1) image (end_of (read_expression (l - 1) image c.next)))
        → sight (c.secret || r.secret) r.next ≡ seen types arrays (read_expression l image at)
    unfolding seen seen_two secret_in
    see_select r g = let (x, n, e, m, f, o, q, s, u, v) = open_select l image at t.read d in go x n e m f o q s u v
      where
        go : (x : Expression) (n : ℕ) (e : Expression) (m : ℕ) (f : Expression) (o : ℕ) → read_expression (l - 1) image (at + 1) ≡ got x n
            → read_expression (l - 1) image n ≡ got e m → read_expression (l - 1) image m ≡ got f o → read_expression l image at ≡ got (select at x e f) o
            → sight (c.secret || r.secret) r.next ≡ seen types arrays (read_expression l image at)
        go x n e m f o q s u v = rw (v, g, h, q, end_of_lem _ e m s, s, u)

pub see_two : (types arrays : List ℕ) (l : ℕ) (image : List ℕ) (at : ℕ) (e f : Seen) → e ≡ seen types arrays (read_expression l image at)
    → f ≡ seen types arrays (read_expression l image e.next)
    → sight (e.secret || f.secret) f.next
    ≡ seen_two types arrays (read_expression l image at) (read_expression l image (end_of (read_expression l image at)))
unfolding seen_two
see_two types arrays l image at e f h g =
    rw (g, seen_next types arrays _ e h, h)

pub second_fine : (types arrays : List ℕ) (l : ℕ) (image : List ℕ) (at : ℕ) (e : Seen) → PairRead l image at
    → e ≡ seen types arrays (read_expression l image at) → ExpressionRead l image e.next
second_fine types arrays l image at e h g = rw (seen_next types arrays _ e g) h.second

pub ruleset seeing = (kind_there, index_fine, operand_fine, operands_fine, condition_fine, values_fine, second_fine)

pub ruleset sights = (see_constant, see_raw, see_boolean, see_variable, see_cell, see_unary, see_binary, see_select, see_two)
