-- Rules for marking: the place after a statement or a block, and the marks that it leaves. Assumes nothing.
use Prim.Native.Nat.{ℕ, ◌+◌, ◌-◌, ◌≤◌, ◌<◌}
use native.Mathlib.Omega.{arith}
use mathlib.Core.Bool.{true}
use mathlib.Core.List.{List}
use mathlib.Core.Path.{◌≡◌, refl, sym, ap, ◌∙◌}
use lib.ListN.{get_or, set}
use Rattle.definitions.specs.Image.{op_of, target_of, called_of, result_of, Expression, Statement, assign, store}
use Rattle.definitions.specs.Image.{conditional, loop, return, call, Block, sequence}
use Rattle.definitions.specs.Reading.{Parse, got, refused, read_expression, read_arguments, read_statement, read_block}
use Rattle.definitions.specs.Sorts.{mark_statement, mark_block}
use Rattle.laws.specs.Parses.{ok, ok_of, end_of, end_of_lem}
use Rattle.laws.specs.StatementInversion.{open_assign, open_store, open_if, open_for, open_return, open_call}
use Rattle.std.specs.Prelude.{◌⊎◌}
use Rattle.std.proofs.Common.{inl, inr}
use Rattle.image_words.specs.Kinds.{op_number}
use Rattle.image_words.specs.declared.ops.Op.{Op}
use Rattle.image_words.specs.declared.ops.Op.TheVariants.{Assign, Return}
use Rattle.image_words.specs.Read.{BlockRead, arguments_at, statements_at}
use Rattle.image_words.specs.StatementParts.{read_assign, read_return, no_statement, first_statement, read_if, read_then, read_else, read_bounds}
use Rattle.image_words.specs.StatementParts.{read_body}
use Rattle.image_words.specs.Skipping.{Skippable, Row, skip_expression, skipped_expression, skipped_pair, skipped_two, skipped_arguments}
use Rattle.image_words.specs.Rest.{statements_left, values_are}
use Rattle.sorts.specs.Marking.{statement_marks, block_marks}

abbrev marked : ℕ → List ℕ → ℕ × List ℕ
marked n marks = (n, marks)

statement_end : (x : Parse Statement) (n : ℕ) (marks after : List ℕ) → marked n after ≡ statement_marks x marks → n ≡ end_of x
unfolding statement_marks end_of
statement_end (got s m) n marks after e = ap (λ (z : ℕ × List ℕ). z.0) e
statement_end (refused m p) n marks after e = ap (λ (z : ℕ × List ℕ). z.0) e

block_end : (x : Parse Block) (n : ℕ) (marks after : List ℕ) → marked n after ≡ block_marks x marks → n ≡ end_of x
unfolding block_marks end_of
block_end (got s m) n marks after e = ap (λ (z : ℕ × List ℕ). z.0) e
block_end (refused m p) n marks after e = ap (λ (z : ℕ × List ℕ). z.0) e

module _ (l : ℕ) (params : List ℕ) (me : ℕ) (image : List ℕ) (at : ℕ) (t : ok (read_statement l params me image at) ≡ true) where
  -- ---- the statements that hold no block leave the marks as they are

  assign_marks : (marks : List ℕ) (r : ℕ) → op_of (get_or image at 0) ≡ 0 → Row image 1 (at + 1) r → marked r marks ≡ statement_marks (read_statement l params me image at) marks
  unfolding statement_marks mark_statement
  assign_marks marks r k h = let (e, n, q, u) = open_assign l params me image at t k in go e n q u
    where
      go : (e : Expression) (n : ℕ) → read_expression (l - 1) image (at + 1) ≡ got e n
          → read_statement l params me image at ≡ got (assign (target_of (get_or image at 0)) e) n
          → marked r marks ≡ statement_marks (read_statement l params me image at) marks
      go e n q u = rw (u, skipped_expression (l - 1) image (at + 1) r (ok_of _ e n q) h ∙ end_of_lem _ e n q)

  return_marks : (marks : List ℕ) (r : ℕ) → op_of (get_or image at 0) ≡ 4 → Row image 1 (at + 1) r → marked r marks ≡ statement_marks (read_statement l params me image at) marks
  unfolding statement_marks mark_statement
  return_marks marks r k h = let (e, n, q, u) = open_return l params me image at t k in go e n q u
    where
      go : (e : Expression) (n : ℕ) → read_expression (l - 1) image (at + 1) ≡ got e n → read_statement l params me image at ≡ got (return e) n
          → marked r marks ≡ statement_marks (read_statement l params me image at) marks
      go e n q u = rw (u, skipped_expression (l - 1) image (at + 1) r (ok_of _ e n q) h ∙ end_of_lem _ e n q)

  -- an assignment or a return
  module _ (o : Op) (ho : op_of (get_or image at 0) ≡ op_number o) (either : (o ≡ Assign) ⊎ (o ≡ Return)) where
    pub single_skips : Skippable image 1 (at + 1)
    single_skips =
        elim either [
          | inl e ↦ skip_expression _ _ _ (read_assign l params me image at t _ refl (ho ∙ ap op_number e)).read
          | inr e ↦ skip_expression _ _ _ (read_return l params me image at t _ refl (ho ∙ ap op_number e)).read
        ]

    pub single_marks : (marks : List ℕ) (r : ℕ) → Row image 1 (at + 1) r → marked r marks ≡ statement_marks (read_statement l params me image at) marks
    single_marks marks r h = elim either [ inl e ↦ assign_marks marks r (ho ∙ ap op_number e) h | inr e ↦ return_marks marks r (ho ∙ ap op_number e) h ]

  pub store_marks : (marks : List ℕ) (r : ℕ) → op_of (get_or image at 0) ≡ 1 → Row image 2 (at + 1) r → marked r marks ≡ statement_marks (read_statement l params me image at) marks
  unfolding statement_marks mark_statement
  store_marks marks r k h = let (e, n, f, m, q, s, u) = open_store l params me image at t k in go e n f m q s u
    where
      go : (e : Expression) (n : ℕ) (f : Expression) (m : ℕ) → read_expression (l - 1) image (at + 1) ≡ got e n → read_expression (l - 1) image n ≡ got f m
          → read_statement l params me image at ≡ got (store (target_of (get_or image at 0)) e f) m
          → marked r marks ≡ statement_marks (read_statement l params me image at) marks
      go e n f m q s u = rw (u, skipped_two (l - 1) image (at + 1) r e n f m q s h)

  module _ (k : op_of (get_or image at 0) ≡ 5) (f c i : ℕ) (hf : f ≡ called_of (get_or image at 0)) (hc : c ≡ get_or params f 0) (hi : i ≡ c) where
    pub call_marks : (marks : List ℕ) (r : ℕ) → Row image i (at + 1) r → marked r marks ≡ statement_marks (read_statement l params me image at) marks
    unfolding statement_marks mark_statement arguments_at
    call_marks marks r h = let (es, m, b, q, u) = open_call l params me image at t k in go es m q u
      where
        go : (es : List Expression) (m : ℕ)
            → read_arguments (get_or params (called_of (get_or image at 0)) 0) (λ a. read_expression (l - 1) image a) (at + 1) ≡ got es m
            → read_statement l params me image at ≡ got (call (called_of (get_or image at 0)) (result_of (get_or image at 0)) es) m
            → marked r marks ≡ statement_marks (read_statement l params me image at) marks
        go es m q u =
            rw (u, skipped_arguments _ (l - 1) image (at + 1) r (ok_of _ es m q) (rw (values_are l params me image at t _ refl k f c i hf hc hi) at h) ∙ end_of_lem _ es m q)

  -- ---- if and for

  module _ (k : op_of (get_or image at 0) ≡ 2) (c : ℕ) (h : Row image 1 (at + 1) c) where
    condition_end : c ≡ end_of (read_expression (l - 1) image (at + 1))
    condition_end = skipped_expression (l - 1) image (at + 1) c (read_if l params me image at t _ refl k).read h

    pub then_marked : BlockRead (l - 1) params me image c
    then_marked = read_then l params me image at t _ refl k c condition_end

    module _ (marks : List ℕ) (a : ℕ) (m1 : List ℕ) (p : marked a m1 ≡ block_marks (read_block (l - 1) params me image c) marks) where
      pub else_marked : BlockRead (l - 1) params me image a
      else_marked = read_else l params me image at t _ refl k c condition_end a (block_end _ a marks m1 p)

      pub if_marks : (b : ℕ) (m2 : List ℕ) → marked b m2 ≡ block_marks (read_block (l - 1) params me image a) m1
          → marked b m2 ≡ statement_marks (read_statement l params me image at) marks
      unfolding block_marks statement_marks mark_statement
      if_marks b m2 v = let (d, n, x, m, y, o, r, s, u, z) = open_if l params me image at t k in go d n x m y o r s u z
        where
          go : (d : Expression) (n : ℕ) (x : Block) (m : ℕ) (y : Block) (o : ℕ) → read_expression (l - 1) image (at + 1) ≡ got d n
              → read_block (l - 1) params me image n ≡ got x m → read_block (l - 1) params me image m ≡ got y o
              → read_statement l params me image at ≡ got (conditional d x y) o
              → marked b m2 ≡ statement_marks (read_statement l params me image at) marks
          go d n x m y o r s u z =
              let e : marked a m1 ≡ marked m (mark_block x marks) = p ∙ rw (condition_end, end_of_lem _ d n r, s) in
              v ∙ ap (λ (w : ℕ × List ℕ). block_marks (read_block (l - 1) params me image w.0) w.1) e ∙ rw (u, z)

  module _ (k : op_of (get_or image at 0) ≡ 3) (v : ℕ) (h : Row image 2 (at + 1) v) where
    pub body_marked : BlockRead (l - 1) params me image v
    body_marked = read_body l params me image at t _ refl k v (skipped_pair (l - 1) image (at + 1) v (read_bounds l params me image at t _ refl k) h)

    pub for_marks : (marks m1 : List ℕ) (x i b : ℕ) (m2 : List ℕ) → x ≡ target_of (get_or image at 0) → i ≡ x → m1 ≡ set marks i 1
        → marked b m2 ≡ block_marks (read_block (l - 1) params me image v) m1
        → marked b m2 ≡ statement_marks (read_statement l params me image at) marks
    unfolding block_marks statement_marks mark_statement
    for_marks marks m1 x i b m2 hx hi e w = let (f, n, g, m, d, o, r, s, u, z) = open_for l params me image at t k in go f n g m d o r s u z
      where
        go : (f : Expression) (n : ℕ) (g : Expression) (m : ℕ) (d : Block) (o : ℕ) → read_expression (l - 1) image (at + 1) ≡ got f n
            → read_expression (l - 1) image n ≡ got g m → read_block (l - 1) params me image m ≡ got d o
            → read_statement l params me image at ≡ got (loop (target_of (get_or image at 0)) f g d) o
            → marked b m2 ≡ statement_marks (read_statement l params me image at) marks
        go f n g m d o r s u z = w ∙ rw (e, hi, hx, skipped_two (l - 1) image (at + 1) v f n g m r s h, u, z)

-- ---- the statements of a block that are left

module _ (l : ℕ) (params : List ℕ) (me : ℕ) (image : List ℕ) (n at j : ℕ) (marks : List ℕ) where
  module _ (X : ℕ × List ℕ) (d : block_marks (statements_at (n - j) l params me image at) marks ≡ X) where
    pub marks_done : n ≤ j → marked at marks ≡ X
    unfolding block_marks mark_block
    marks_done h =
        let z : n - j ≡ 0 = omega arith in
        sym (ap (λ k. block_marks k marks) (ap (λ k. statements_at k l params me image at) z ∙ no_statement l params me image at)) ∙ d

    pub marks_more : ok (statements_at (n - j) l params me image at) ≡ true → j < n → (p : ℕ) (after : List ℕ)
        → marked p after ≡ statement_marks (read_statement l params me image at) marks
        → block_marks (statements_at (n - (j + 1)) l params me image p) after ≡ X
    unfolding statement_marks block_marks mark_block
    marks_more t h p after q = let (s, m, b, o, r, u, v) = first_statement (n - j) l params me image at t (omega arith) in go s m b o r u v
      where
        go : (s : Statement) (m : ℕ) (b : Block) (o : ℕ) → read_statement l params me image at ≡ got s m
            → statements_at (n - j - 1) l params me image m ≡ got b o → statements_at (n - j) l params me image at ≡ got (sequence at s b) o
            → block_marks (statements_at (n - (j + 1)) l params me image p) after ≡ X
        go s m b o r u v =
            let z : n - (j + 1) ≡ n - j - 1 = omega arith in
            let e : marked p after ≡ marked m (mark_statement s marks) = q ∙ rw r in
            ap (λ (w : ℕ × List ℕ). block_marks (statements_at (n - (j + 1)) l params me image w.0) w.1) e ∙ rw (z, u)
            (sym (ap (λ k. block_marks k marks) v) ∙ d)

  pub marks_again : ok (statements_at (n - j) l params me image at) ≡ true → j < n → (p : ℕ) (after : List ℕ)
      → marked p after ≡ statement_marks (read_statement l params me image at) marks → ok (statements_at (n - (j + 1)) l params me image p) ≡ true
  marks_again t h p after q = statements_left l params me image at n j t h p (statement_end _ p marks after q)
