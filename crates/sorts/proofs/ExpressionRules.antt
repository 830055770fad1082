-- Rules for the walk of an expression: what each way of returning gives, and what each call asks. Assumes nothing.
use Prim.Native.Nat.{ℕ, ◌+◌, ◌-◌, ◌<◌}
use native.Mathlib.Omega.{arith}
use mathlib.Core.Bool.{true}
use mathlib.Core.List.{List}
use mathlib.Core.Path.{◌≡◌, refl, sym, ap, ◌∙◌}
use lib.Dec.{leb, eqb}
use lib.ListN.{length, get_or}
use Rattle.definitions.specs.declared.Fault.{Fault}
use Rattle.definitions.specs.Image.{kind_of, payload_of, Expression, cell, unary, binary, select, place_of}
use Rattle.definitions.specs.Reading.{Parse, got, refused, read_expression}
use Rattle.definitions.specs.Faults.{least, fault_if}
use Rattle.definitions.specs.Operators.{operator, unary_operand, unary_result}
use Rattle.definitions.specs.Sorts.{sort_of, sort_in, sort_faults, wrong_sort}
use Rattle.laws.specs.WordTests.{unary_limit}
use Rattle.laws.specs.Least.{least_append}
use Rattle.laws.specs.Parses.{ok, end_of, got_ok}
use Rattle.laws.specs.ExpressionInversion.{open_constant, open_raw, open_boolean, open_variable}
use Rattle.laws.specs.ExpressionInversion.{open_expression, open_cell, open_unary, open_binary, open_select}
use Rattle.laws.specs.Places.{place_of_lem}
use Rattle.image_words.specs.Read.{ExpressionRead, PairRead}
use Rattle.image_words.specs.Parts.{read_values}
use Rattle.sorts.specs.Walk.{Found, found, expression_walked, operand_walked}

-- there are three unary operators
pub unary_there : (l : ℕ) (image : List ℕ) (at p : ℕ) → ok (read_expression l image at) ≡ true → kind_of (get_or image at 0) ≡ 12
    → p ≡ payload_of (get_or image at 0) → p < 3
unary_there l image at p t k e = rw e (unary_limit (get_or image at 0) (open_expression l image at t).2 k)

module _ (types : List ℕ) (arrays : ℕ) (marks : List ℕ) where
  -- ---- where the next operand stands

  module _ (best : Fault) where
    expression_next : (x : Parse Expression) (r : Found) → r ≡ expression_walked types arrays marks best x → r.next ≡ end_of x
    unfolding expression_walked end_of
    expression_next (got e n) r h = ap (λ (z : Found). z.next) h
    expression_next (refused n p) r h = ap (λ (z : Found). z.next) h

    pub operand_next : (want : ℕ) (x : Parse Expression) (r : Found) → r ≡ operand_walked types arrays marks want best x → r.next ≡ end_of x
    unfolding operand_walked end_of
    operand_next want (got e n) r h = ap (λ (z : Found). z.next) h
    operand_next want (refused n p) r h = ap (λ (z : Found). z.next) h

    module _ (l : ℕ) (image : List ℕ) (at : ℕ) (r : Found) where
      pub second_fine : (want : ℕ) → r ≡ operand_walked types arrays marks want best (read_expression l image at) → PairRead l image at
          → ExpressionRead l image r.next
      second_fine want h p = rw (operand_next want _ r h) p.second

      pub value_fine : r ≡ expression_walked types arrays marks best (read_expression l image at) → PairRead l image at → ExpressionRead l image r.next
      value_fine h p = rw (expression_next _ r h) p.second

  -- ---- laws on trees

  operand_law : (want : ℕ) (best : Fault) (e : Expression) (n at : ℕ) → place_of e ≡ at
      → found (sort_in types e) n (least (least best (sort_faults types arrays marks e)) (wrong_sort want (sort_in types e) at))
      ≡ operand_walked types arrays marks want best (got e n)
  unfolding operand_walked
  operand_law want best e n at p = rw (← p, least_append)

  module _ (l : ℕ) (image : List ℕ) (at : ℕ) (best : Fault) (t : ok (read_expression l image at) ≡ true) where
    -- an operand, by the walk of its expression
    pub operand_returns : (want : ℕ) (s : Found) (b : Fault) → s ≡ expression_walked types arrays marks best (read_expression l image at)
        → b ≡ least s.best (wrong_sort want s.sort at)
        → found s.sort s.next b ≡ operand_walked types arrays marks want best (read_expression l image at)
    unfolding expression_walked
    operand_returns want s b q h = let (e, n, r) = got_ok (read_expression l image at) t in go e n r
      where
        go : (e : Expression) (n : ℕ) → read_expression l image at ≡ got e n
            → found s.sort s.next b ≡ operand_walked types arrays marks want best (read_expression l image at)
        go e n r =
            rw h (ap (λ (z : Found). found z.sort z.next (least z.best (wrong_sort want z.sort at)))
            (q ∙ ap (λ (z : Parse Expression). expression_walked types arrays marks best z) r)
            ∙ operand_law want best e n at (place_of_lem l image at e n r)
            ∙ ap (λ (z : Parse Expression). operand_walked types arrays marks want best z) (sym r))

    pub constant_returns : kind_of (get_or image at 0) ≡ 7 → found 0 (at + 1) best ≡ expression_walked types arrays marks best (read_expression l image at)
    unfolding expression_walked sort_in sort_faults least
    constant_returns d = rw (open_constant l image at t d)

    pub raw_returns : kind_of (get_or image at 0) ≡ 8 → found 0 (at + 2) best ≡ expression_walked types arrays marks best (read_expression l image at)
    unfolding expression_walked sort_in sort_faults least
    raw_returns d = let e : at + 2 ≡ at + 1 + 1 = omega arith in rw ((open_raw l image at t d).2, e)

    pub boolean_returns : kind_of (get_or image at 0) ≡ 9 → found 1 (at + 1) best ≡ expression_walked types arrays marks best (read_expression l image at)
    unfolding expression_walked sort_in sort_faults least
    boolean_returns d = rw (open_boolean l image at t d)

    pub variable_returns : (x : ℕ) (b : Fault) (s : ℕ) → kind_of (get_or image at 0) ≡ 10 → x ≡ payload_of (get_or image at 0)
        → b ≡ least (least best (fault_if (leb (length types) x) 6 at)) (fault_if (eqb (get_or marks x 0) 1) 8 at)
        → s ≡ sort_of types x
        → found s (at + 1) b ≡ expression_walked types arrays marks best (read_expression l image at)
    unfolding expression_walked sort_in sort_faults
    variable_returns x b s d hx h g = rw (open_variable l image at t d, least_append, h, g, hx)

    pub cell_returns : (m : Fault) (c p : ℕ) (i : Found) → kind_of (get_or image at 0) ≡ 11 → c ≡ arrays → p ≡ payload_of (get_or image at 0)
        → m ≡ least best (fault_if (leb c p) 6 at)
        → i ≡ operand_walked types arrays marks 0 m (read_expression (l - 1) image (at + 1))
        → found 0 i.next i.best ≡ expression_walked types arrays marks best (read_expression l image at)
    unfolding expression_walked operand_walked sort_in sort_faults
    cell_returns m c p i k hc hp h q = let (e, n, r, z) = open_cell l image at t k in go e n r z
      where
        go : (e : Expression) (n : ℕ) → read_expression (l - 1) image (at + 1) ≡ got e n
            → read_expression l image at ≡ got (cell at (payload_of (get_or image at 0)) e) n
            → found 0 i.next i.best ≡ expression_walked types arrays marks best (read_expression l image at)
        go e n r z = rw (z, q, r, h, hc, hp) (simp least_append)

    module _ (p n : ℕ) (hp : p ≡ payload_of (get_or image at 0)) (hn : p ≡ n) (want sort : ℕ) (i : Found)
        (q : i ≡ operand_walked types arrays marks want best (read_expression (l - 1) image (at + 1))) where
      pub unary_returns : kind_of (get_or image at 0) ≡ 12 → want ≡ unary_operand n → sort ≡ unary_result n
          → found sort i.next i.best ≡ expression_walked types arrays marks best (read_expression l image at)
      unfolding expression_walked operand_walked sort_in sort_faults
      unary_returns k h g = let (e, m, r, z) = open_unary l image at t k in go e m r z
        where
          go : (e : Expression) (m : ℕ) → read_expression (l - 1) image (at + 1) ≡ got e m
              → read_expression l image at ≡ got (unary at (payload_of (get_or image at 0)) e) m
              → found sort i.next i.best ≡ expression_walked types arrays marks best (read_expression l image at)
          go e m r z = let o : n ≡ payload_of (get_or image at 0) = sym hn ∙ hp in rw (z, q, r, h, g, o)

      pub binary_returns : kind_of (get_or image at 0) ≡ 13 → (j : Found) → want ≡ (operator n).operands → sort ≡ (operator n).result
          → j ≡ operand_walked types arrays marks want i.best (read_expression (l - 1) image i.next)
          → found sort j.next j.best ≡ expression_walked types arrays marks best (read_expression l image at)
      unfolding expression_walked operand_walked sort_in sort_faults
      binary_returns k j h g y = let (e, m, f, o, r, s, z) = open_binary l image at t k in go e m f o r s z
        where
          go : (e : Expression) (m : ℕ) (f : Expression) (o : ℕ) → read_expression (l - 1) image (at + 1) ≡ got e m
              → read_expression (l - 1) image m ≡ got f o
              → read_expression l image at ≡ got (binary at (payload_of (get_or image at 0)) e f) o
              → found sort j.next j.best ≡ expression_walked types arrays marks best (read_expression l image at)
          go e m f o r s z =
              let u : n ≡ payload_of (get_or image at 0) = sym hn ∙ hp in
              rw (z, y, q, r, s, h, g, u) (simp least_append)

    module _ (k : kind_of (get_or image at 0) ≡ 14) (c : Found)
        (q : c ≡ operand_walked types arrays marks 1 best (read_expression (l - 1) image (at + 1))) where
      pub values_fine : PairRead (l - 1) image c.next
      values_fine = read_values l image at t (kind_of (get_or image at 0)) refl k c.next (operand_next best 1 _ c q)

      pub select_returns : (i j : Found) → i ≡ expression_walked types arrays marks c.best (read_expression (l - 1) image c.next)
          → j ≡ operand_walked types arrays marks i.sort i.best (read_expression (l - 1) image i.next)
          → found i.sort j.next j.best ≡ expression_walked types arrays marks best (read_expression l image at)
      unfolding expression_walked operand_walked sort_in sort_faults
      select_returns i j p y = let (d, n, e, m, f, o, r, s, u, z) = open_select l image at t k in go d n e m f o r s u z
        where
          go : (d : Expression) (n : ℕ) (e : Expression) (m : ℕ) (f : Expression) (o : ℕ) → read_expression (l - 1) image (at + 1) ≡ got d n
              → read_expression (l - 1) image n ≡ got e m
              → read_expression (l - 1) image m ≡ got f o
              → read_expression l image at ≡ got (select at d e f) o
              → found i.sort j.next j.best ≡ expression_walked types arrays marks best (read_expression l image at)
          go d n e m f o r s u z = rw (z, y, p, q, r, s, u) (simp least_append)
