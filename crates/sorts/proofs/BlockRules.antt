-- Rules for blocks and the statements that hold blocks. Assumes nothing.
use Prim.Native.Nat.{ℕ, ◌+◌, ◌-◌, ◌≤◌, ◌<◌}
use native.Mathlib.Omega.{arith}
use mathlib.Core.Bool.{true}
use mathlib.Core.List.{List}
use mathlib.Core.Path.{◌≡◌, refl, sym, ap, ◌∙◌}
use lib.Dec.{leb}
use lib.ListN.{length, get_or, set}
use Rattle.definitions.specs.declared.Fault.{Fault}
use Rattle.definitions.specs.Image.{op_of, target_of, Expression, Statement, conditional, loop, Block, sequence, Procedure}
use Rattle.definitions.specs.Reading.{Parse, got, refused, read_expression, read_statement, read_block}
use Rattle.definitions.specs.Faults.{least, fault_if}
use Rattle.definitions.specs.Sorts.{loop_fault, statement_sort_faults, block_sort_faults}
use Rattle.laws.specs.Least.{least_append}
use Rattle.laws.specs.Parses.{ok, end_of}
use Rattle.laws.specs.StatementInversion.{open_if, open_for}
use Rattle.image_words.specs.Read.{BlockRead, statements_at}
use Rattle.image_words.specs.StatementParts.{no_statement, first_statement, read_then, read_else, read_body}
use Rattle.image_words.specs.Rest.{statements_left}
use Rattle.sorts.specs.declared.Scope.{Scope}
use Rattle.sorts.specs.declared.Walked.{Walked}
use Rattle.sorts.specs.Walk.{Found, walk, operand_walked, statement_walked, block_walked}
use Rattle.sorts.proofs.ExpressionRules.{operand_next}

module _ (ps : List Procedure) (types : List ℕ) (arrays : ℕ) (marks : List ℕ) (scope : Scope) (best : Fault) where
  statement_next : (at : ℕ) (x : Parse Statement) (r : Walked) → r ≡ statement_walked ps types arrays marks scope at best x → r.next ≡ end_of x
  unfolding statement_walked end_of
  statement_next at (got s n) r h = ap (λ (z : Walked). z.next) h
  statement_next at (refused n p) r h = ap (λ (z : Walked). z.next) h

  block_next : (x : Parse Block) (r : Walked) → r ≡ block_walked ps types arrays marks scope best x → r.next ≡ end_of x
  unfolding block_walked end_of
  block_next (got b n) r h = ap (λ (z : Walked). z.next) h
  block_next (refused n p) r h = ap (λ (z : Walked). z.next) h

-- the statements of a block that are left
module _ (ps : List Procedure) (types : List ℕ) (arrays : ℕ) (marks : List ℕ) (scope : Scope) (l : ℕ) (params : List ℕ) (me : ℕ) (image : List ℕ)
    (n at j : ℕ) (best : Fault) where
  module _ (X : Walked) (d : block_walked ps types arrays marks scope best (statements_at (n - j) l params me image at) ≡ X) where
    pub block_done : n ≤ j → walk at best ≡ X
    unfolding block_walked block_sort_faults least
    block_done h =
        let z : n - j ≡ 0 = omega arith in
        sym (ap (λ k. block_walked ps types arrays marks scope best k)
        (ap (λ k. statements_at k l params me image at) z ∙ no_statement l params me image at)) ∙ d

    pub block_more : ok (statements_at (n - j) l params me image at) ≡ true → j < n → (w : Walked) (after : List ℕ)
        → w ≡ statement_walked ps types arrays marks scope at best (read_statement l params me image at) → after ≡ marks
        → block_walked ps types arrays after scope w.best (statements_at (n - (j + 1)) l params me image w.next) ≡ X
    unfolding block_walked statement_walked block_sort_faults
    block_more t h w after q y = let (s, m, b, o, r, u, v) = first_statement (n - j) l params me image at t (omega arith) in go s m b o r u v
      where
        go : (s : Statement) (m : ℕ) (b : Block) (o : ℕ) → read_statement l params me image at ≡ got s m
            → statements_at (n - j - 1) l params me image m ≡ got b o → statements_at (n - j) l params me image at ≡ got (sequence at s b) o
            → block_walked ps types arrays after scope w.best (statements_at (n - (j + 1)) l params me image w.next) ≡ X
        go s m b o r u v =
            let z : n - (j + 1) ≡ n - j - 1 = omega arith in
            rw (y, z, q, r, u)
            (ap (walk o) (sym (least_append best _ _)) ∙ sym (ap (λ k. block_walked ps types arrays marks scope best k) v) ∙ d)

  pub block_again : ok (statements_at (n - j) l params me image at) ≡ true → j < n → (w : Walked)
      → w ≡ statement_walked ps types arrays marks scope at best (read_statement l params me image at)
      → ok (statements_at (n - (j + 1)) l params me image w.next) ≡ true
  block_again t h w q = statements_left l params me image at n j t h w.next (statement_next ps types arrays marks scope best at _ w q)

-- if and for
module _ (types : List ℕ) (arrays : ℕ) (marks : List ℕ) (l : ℕ) (params : List ℕ) (me : ℕ) (image : List ℕ) (at : ℕ)
    (t : ok (read_statement l params me image at) ≡ true) where
  module _ (k : op_of (get_or image at 0) ≡ 2) (best : Fault) (c : Found)
      (q : c ≡ operand_walked types arrays marks 1 best (read_expression (l - 1) image (at + 1))) where
    pub then_fine : BlockRead (l - 1) params me image c.next
    then_fine = read_then l params me image at t _ refl k c.next (operand_next types arrays marks best 1 _ c q)

    module _ (ps : List Procedure) (scope : Scope) (a : Walked)
        (p : a ≡ block_walked ps types arrays marks scope c.best (read_block (l - 1) params me image c.next)) where
      pub else_fine : BlockRead (l - 1) params me image a.next
      else_fine =
          read_else l params me image at t _ refl k c.next (operand_next types arrays marks best 1 _ c q) a.next
          (block_next ps types arrays marks scope c.best _ a p)

      pub if_returns : (b : Walked) (after : List ℕ) → after ≡ marks
          → b ≡ block_walked ps types arrays after scope a.best (read_block (l - 1) params me image a.next)
          → b ≡ statement_walked ps types arrays marks scope at best (read_statement l params me image at)
      unfolding operand_walked block_walked statement_walked statement_sort_faults
      if_returns b after e v = let (d, n, x, m, y, o, r, s, u, z) = open_if l params me image at t k in go d n x m y o r s u z
        where
          go : (d : Expression) (n : ℕ) (x : Block) (m : ℕ) (y : Block) (o : ℕ) → read_expression (l - 1) image (at + 1) ≡ got d n
              → read_block (l - 1) params me image n ≡ got x m → read_block (l - 1) params me image m ≡ got y o
              → read_statement l params me image at ≡ got (conditional d x y) o
              → b ≡ statement_walked ps types arrays marks scope at best (read_statement l params me image at)
          go d n x m y o r s u z = rw (z, v, e, p, q, r, s, u) (simp least_append)

  module _ (k : op_of (get_or image at 0) ≡ 3) (noted : Fault) (f v : Found)
      (q : f ≡ operand_walked types arrays marks 0 noted (read_expression (l - 1) image (at + 1)))
      (p : v ≡ operand_walked types arrays marks 0 f.best (read_expression (l - 1) image f.next)) where
    pub body_fine : BlockRead (l - 1) params me image v.next
    body_fine =
        read_body l params me image at t _ refl k v.next
        (operand_next types arrays marks f.best 0 _ v p
        ∙ ap (λ z. end_of (read_expression (l - 1) image z)) (operand_next types arrays marks noted 0 _ f q))

    pub for_returns : (ps : List Procedure) (scope : Scope) (best : Fault) (x i : ℕ) (m1 : List ℕ) (b : Walked)
        → x ≡ target_of (get_or image at 0) → i ≡ x
        → noted ≡ least (least best (fault_if (leb (length types) x) 6 at)) (loop_fault types scope.parameters marks x at)
        → m1 ≡ set marks i 2
        → b ≡ block_walked ps types arrays m1 scope v.best (read_block (l - 1) params me image v.next)
        → b ≡ statement_walked ps types arrays marks scope at best (read_statement l params me image at)
    unfolding operand_walked block_walked statement_walked statement_sort_faults
    for_returns ps scope best x i m1 b hx hi h e w = let (c, n, g, m, d, o, r, s, u, z) = open_for l params me image at t k in go c n g m d o r s u z
      where
        go : (c : Expression) (n : ℕ) (g : Expression) (m : ℕ) (d : Block) (o : ℕ) → read_expression (l - 1) image (at + 1) ≡ got c n
            → read_expression (l - 1) image n ≡ got g m → read_block (l - 1) params me image m ≡ got d o
            → read_statement l params me image at ≡ got (loop (target_of (get_or image at 0)) c g d) o
            → b ≡ statement_walked ps types arrays marks scope at best (read_statement l params me image at)
        go c n g m d o r s u z = rw (z, w, e, p, q, r, s, u, h, hi, hx) (simp least_append)
