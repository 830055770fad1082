-- What each return of the walk over an expression gives, and what its calls ask. Assumes nothing.
use Prim.Native.Nat.{ℕ, ◌+◌, ◌-◌, ◌<◌}
use mathlib.Core.Bool.{Bool, false, ◌||◌}
use mathlib.Core.List.{List}
use mathlib.Core.Path.{◌≡◌, refl, ap}
use lib.ListN.{get_or}
use Rattle.definitions.specs.declared.Fault.{Fault}
use Rattle.definitions.specs.declared.ConstantLoop.{ConstantLoop}
use Rattle.definitions.specs.Operators.{operator}
use Rattle.definitions.specs.Image.{kind_of, payload_of, type_secret, array_secret, Expression, cell, unary, binary, select}
use Rattle.definitions.specs.Reading.{Parse, got, refused, read_expression}
use Rattle.definitions.specs.Faults.{least}
use Rattle.definitions.specs.Labels.{secret_in, label_faults}
use Rattle.laws.specs.Least.{least_append}
use Rattle.laws.specs.Parses.{end_of, end_of_lem}
use Rattle.laws.specs.Places.{place_of_lem}
use Rattle.laws.specs.ExpressionInversion.{open_constant, open_raw, open_boolean, open_variable, open_cell, open_unary}
use Rattle.laws.specs.ExpressionInversion.{open_binary, open_select}
use Rattle.image_words.specs.Read.{ExpressionRead, PairRead}
use Rattle.image_words.specs.Parts.{kind_there, read_cell, read_unary, read_binary, read_condition, read_values}
use Rattle.labels.specs.Operand.{operand_words, index_words}
use Rattle.labels.specs.Walk.{label, labelled, labelled_two, index_noted, operator_noted}
use Rattle.labels.specs.Cursors.{ending}
use Rattle.labels.specs.declared.Cursor.{Cursor}
use Rattle.labels.specs.declared.Labelled.{Labelled}
use Rattle.faults.specs.Parts.{operator_limit}

abbrev pub labelling : Bool → Cursor → Labelled
labelling s c = record { secret = s; cursor = c }

-- what the calls ask
module _ (l : ℕ) (image : List ℕ) (at : ℕ) (t : ExpressionRead l image at) where
  pub index_fine : kind_of (get_or image at 0) ≡ 11 → ExpressionRead (l - 1) image (at + 1)
  index_fine h = read_cell l image at t.read _ refl h

  pub operand_fine : kind_of (get_or image at 0) ≡ 12 → ExpressionRead (l - 1) image (at + 1)
  operand_fine h = read_unary l image at t.read _ refl h

  pub operands_fine : kind_of (get_or image at 0) ≡ 13 → PairRead (l - 1) image (at + 1)
  operands_fine h = read_binary l image at t.read _ refl h

  pub left_fine : kind_of (get_or image at 0) ≡ 13 → ExpressionRead (l - 1) image (at + 1)
  left_fine h = (operands_fine h).first

  pub condition_fine : kind_of (get_or image at 0) ≡ 14 → ExpressionRead (l - 1) image (at + 1)
  condition_fine h = read_condition l image at t.read _ refl h

  pub operator_fine : kind_of (get_or image at 0) ≡ 13 → (p : ℕ) → p ≡ payload_of (get_or image at 0) → p < 15
  operator_fine h p e = operator_limit l image at t.read h p e

module _ (types arrays : List ℕ) (bounds : List ConstantLoop) (context : Bool) (best : Fault) where
  pub labelled_next : (x : Parse Expression) (r : Labelled) → r ≡ labelled types arrays bounds context best x → r.cursor.at ≡ end_of x
  unfolding labelled end_of
  labelled_next (got e n) r h = ap (λ (z : Labelled). z.cursor.at) h
  labelled_next (refused n p) r h = ap (λ (z : Labelled). z.cursor.at) h

  module _ (l : ℕ) (image : List ℕ) (at : ℕ) (x : Labelled) (hx : x ≡ labelled types arrays bounds context best (read_expression l image at)) where
    pub second_fine : PairRead l image at → ExpressionRead l image x.cursor.at
    second_fine p = rw (labelled_next _ x hx) p.second

    pub two_labelled : (y : Labelled) → y ≡ labelled types arrays bounds context x.cursor.best (read_expression l image x.cursor.at)
        → labelling (x.secret || y.secret) y.cursor
        ≡ labelled_two types arrays bounds context best (read_expression l image at) (read_expression l image (end_of (read_expression l image at)))
    unfolding labelled_two
    two_labelled y hy = rw (hy, labelled_next _ x hx, hx)

  module _ (l : ℕ) (image : List ℕ) (at : ℕ) (t : ExpressionRead l image at) where
    pub label_constant : kind_of (get_or image at 0) ≡ 7 → label false (at + 1) best ≡ labelled types arrays bounds context best (read_expression l image at)
    unfolding labelled secret_in label_faults least
    label_constant d = rw (open_constant l image at t.read d)

    pub label_raw : kind_of (get_or image at 0) ≡ 8 → label false (at + 1 + 1) best ≡ labelled types arrays bounds context best (read_expression l image at)
    unfolding labelled secret_in label_faults least
    label_raw d = rw (open_raw l image at t.read d).2

    pub label_boolean : kind_of (get_or image at 0) ≡ 9 → label false (at + 1) best ≡ labelled types arrays bounds context best (read_expression l image at)
    unfolding labelled secret_in label_faults least
    label_boolean d = rw (open_boolean l image at t.read d)

    pub label_variable : (s : Bool) (p : ℕ) → kind_of (get_or image at 0) ≡ 10 → p ≡ payload_of (get_or image at 0) → s ≡ type_secret (get_or types p 0)
        → label s (at + 1) best ≡ labelled types arrays bounds context best (read_expression l image at)
    unfolding labelled secret_in label_faults least
    label_variable s p d hp e = rw (open_variable l image at t.read d, e, hp)

    pub label_unary : (r : Labelled) → kind_of (get_or image at 0) ≡ 12 → r ≡ labelled types arrays bounds context best (read_expression (l - 1) image (at + 1))
        → r ≡ labelled types arrays bounds context best (read_expression l image at)
    unfolding labelled secret_in label_faults
    label_unary r d h = let (i, n, q, u) = open_unary l image at t.read d in go i n q u
      where
        go : (i : Expression) (n : ℕ) → read_expression (l - 1) image (at + 1) ≡ got i n
            → read_expression l image at ≡ got (unary at (payload_of (get_or image at 0)) i) n → r ≡ labelled types arrays bounds context best (read_expression l image at)
        go i n q u = rw (u, h, q)

    module _ (x : Labelled) (hx : x ≡ labelled types arrays bounds context best (read_expression (l - 1) image (at + 1))) (p : ℕ)
        (hp : p ≡ payload_of (get_or image at 0)) where
      pub cell_labelled : (judged : Cursor) (s : Bool) → kind_of (get_or image at 0) ≡ 11
          → judged ≡ ending x.cursor.at (index_noted image arrays bounds context p (at + 1) x.secret x.cursor.best) → s ≡ array_secret (get_or arrays p 0)
          → labelling (s || x.secret) judged ≡ labelled types arrays bounds context best (read_expression l image at)
      unfolding labelled secret_in label_faults index_noted
      cell_labelled judged s k j a = let (i, n, q, u) = open_cell l image at t.read k in go i n q u
        where
          go : (i : Expression) (n : ℕ) → read_expression (l - 1) image (at + 1) ≡ got i n
              → read_expression l image at ≡ got (cell at (payload_of (get_or image at 0)) i) n
              → labelling (s || x.secret) judged ≡ labelled types arrays bounds context best (read_expression l image at)
          go i n q u =
              rw (u, j, hx, q, a, index_words (l - 1) image (at + 1) i n q bounds _, place_of_lem (l - 1) image (at + 1) i n q, hp, least_append, least_append)

      pub binary_labelled : (y : Labelled) (publics : ℕ) (judged : Cursor) → kind_of (get_or image at 0) ≡ 13
          → y ≡ labelled types arrays bounds context x.cursor.best (read_expression (l - 1) image x.cursor.at) → publics ≡ (operator p).publics
          → judged ≡ ending y.cursor.at (operator_noted image publics context (at + 1) x.secret x.cursor.at y.secret y.cursor.best)
          → labelling (x.secret || y.secret) judged ≡ labelled types arrays bounds context best (read_expression l image at)
      unfolding labelled secret_in label_faults operator_noted
      binary_labelled y publics judged k hy ho j = let (e, n, f, m, q, r, u) = open_binary l image at t.read k in go e n f m q r u
        where
          go : (e : Expression) (n : ℕ) (f : Expression) (m : ℕ) → read_expression (l - 1) image (at + 1) ≡ got e n → read_expression (l - 1) image n ≡ got f m
              → read_expression l image at ≡ got (binary at (payload_of (get_or image at 0)) e f) m
              → labelling (x.secret || y.secret) judged ≡ labelled types arrays bounds context best (read_expression l image at)
          go e n f m q r u =
              rw (u, j, hy, hx, q, r, ho, hp, (operand_words (l - 1) image n f m r).values, place_of_lem (l - 1) image (at + 1) e n q, place_of_lem (l - 1) image n f m r)
              (simp least_append)

    module _ (k : kind_of (get_or image at 0) ≡ 14) (x : Labelled) (hx : x ≡ labelled types arrays bounds context best (read_expression (l - 1) image (at + 1))) where
      pub values_fine : PairRead (l - 1) image x.cursor.at
      values_fine = read_values l image at t.read _ refl k x.cursor.at (labelled_next _ x hx)

      pub select_labelled : (y : Labelled)
          → y ≡ labelled_two types arrays bounds context x.cursor.best (read_expression (l - 1) image x.cursor.at) (read_expression (l - 1) image (end_of (read_expression (l - 1) image x.cursor.at)))
          → labelling (x.secret || y.secret) y.cursor ≡ labelled types arrays bounds context best (read_expression l image at)
      unfolding labelled labelled_two secret_in label_faults
      select_labelled y hy = let (c, n, e, m, f, o, q, r, s, u) = open_select l image at t.read k in go c n e m f o q r s u
        where
          go : (c : Expression) (n : ℕ) (e : Expression) (m : ℕ) (f : Expression) (o : ℕ) → read_expression (l - 1) image (at + 1) ≡ got c n
              → read_expression (l - 1) image n ≡ got e m → read_expression (l - 1) image m ≡ got f o → read_expression l image at ≡ got (select at c e f) o
              → labelling (x.secret || y.secret) y.cursor ≡ labelled types arrays bounds context best (read_expression l image at)
          go c n e m f o q r s u = rw (u, hy, hx, q, end_of_lem _ e m r, r, s, least_append, least_append)

pub ruleset fine = (kind_there, index_fine, operand_fine, operands_fine, left_fine, condition_fine, values_fine, second_fine, operator_fine)

pub ruleset labels =
    (label_constant, label_raw, label_boolean, label_variable, label_unary, cell_labelled, binary_labelled, select_labelled, two_labelled)
