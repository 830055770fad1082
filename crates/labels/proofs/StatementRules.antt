-- What each return of the walk over a block, or a statement that holds blocks, gives, and what its calls ask. Assumes nothing.
use Prim.Native.Nat.{ℕ, ◌+◌, ◌-◌, ◌≤◌, ◌<◌}
use native.Mathlib.Omega.{arith}
use mathlib.Core.Bool.{Bool, true, ◌&&◌, ◌||◌}
use mathlib.Core.List.{List}
use mathlib.Core.Path.{◌≡◌, refl, sym, ap, ◌∙◌}
use lib.Dec.{eqb}
use lib.ListN.{get_or, set}
use Rattle.definitions.specs.declared.Fault.{Fault}
use Rattle.definitions.specs.declared.ConstantLoop.{ConstantLoop}
use Rattle.definitions.specs.Image.{payload_of, op_of, target_of, Expression, Statement, conditional, loop, Block, sequence, Procedure}
use Rattle.definitions.specs.Reading.{Parse, got, refused, read_expression, read_statement, read_block}
use Rattle.definitions.specs.Faults.{least, fault_if}
use Rattle.definitions.specs.Labels.{rc_after, rc_after_block, statement_label_faults, block_label_faults}
use Rattle.laws.specs.Least.{least_append}
use Rattle.laws.specs.Parses.{ok, end_of, end_of_lem}
use Rattle.laws.specs.StatementInversion.{open_if, open_for}
use Rattle.image_words.specs.Read.{ExpressionRead, PairRead, StatementRead, BlockRead, statements_at}
use Rattle.image_words.specs.StatementParts.{op_there, no_statement, first_statement, read_if, read_then, read_else, read_bounds, read_body}
use Rattle.contexts.specs.Context.{passed_block}
use Rattle.contexts.specs.declared.Passed.{Passed}
use Rattle.image_words.specs.Rest.{block_ready, block_begins, next_statement, statements_left}
use Rattle.labels.specs.Late.{least_late}
use Rattle.labels.specs.Walk.{labelled, limited}
use Rattle.labels.specs.Blocks.{walk, walked, walked_block}
use Rattle.labels.specs.declared.Cursor.{Cursor}
use Rattle.labels.specs.declared.Labelled.{Labelled}
use Rattle.labels.specs.declared.Limited.{Limited}
use Rattle.labels.specs.declared.Walked.{Walked}
use Rattle.labels.proofs.ExpressionRules.{labelled_next}
use Rattle.labels.proofs.LeafRules.{walking}
use Rattle.std.specs.Option.{unwrap_or}
use Rattle.std.specs.declared.option.Option.{Option}
use Rattle.faults.specs.Parts.{put_back}
use Rattle.definitions.specs.Labels.{unbounded}
use Rattle.labels.specs.Cursors.{ending}

module _ (ps : List Procedure) (arrays types : List ℕ) (bounds : List ConstantLoop) (form result : ℕ) (pc rc : Bool) (best : Fault) where
  walked_next : (at : ℕ) (x : Parse Statement) (r : Walked) → r ≡ walked ps arrays types bounds form result pc rc at best x → r.cursor.at ≡ end_of x
  unfolding walked end_of
  walked_next at (got s n) r h = ap (λ (z : Walked). z.cursor.at) h
  walked_next at (refused n p) r h = ap (λ (z : Walked). z.cursor.at) h

  walked_block_next : (x : Parse Block) (r : Walked) → r ≡ walked_block ps arrays types bounds form result pc rc best x → r.cursor.at ≡ end_of x
  unfolding walked_block end_of
  walked_block_next (got b n) r h = ap (λ (z : Walked). z.cursor.at) h
  walked_block_next (refused n p) r h = ap (λ (z : Walked). z.cursor.at) h

-- ---- the blocks of an if stand behind its condition, that of a for behind its bounds

module _ (l : ℕ) (params : List ℕ) (me : ℕ) (image : List ℕ) (at : ℕ) (t : StatementRead l params me image at) where
  pub condition_fine : op_of (get_or image at 0) ≡ 2 → ExpressionRead (l - 1) image (at + 1)
  condition_fine k = read_if l params me image at t.read _ refl k

  pub bounds_fine : op_of (get_or image at 0) ≡ 3 → PairRead (l - 1) image (at + 1)
  bounds_fine k = read_bounds l params me image at t.read _ refl k

  module _ (types arrays : List ℕ) (bounds : List ConstantLoop) (context : Bool) (best : Fault) where
    module _ (k : op_of (get_or image at 0) ≡ 2) (c : Labelled) (h : c ≡ labelled types arrays bounds context best (read_expression (l - 1) image (at + 1)))
        (f : Fault) (b : Cursor) (e : b ≡ ending c.cursor.at f) where
      then_at : b.at ≡ end_of (read_expression (l - 1) image (at + 1))
      then_at = ap (λ (z : Cursor). z.at) e ∙ labelled_next types arrays bounds context best _ c h

      pub then_fine : BlockRead (l - 1) params me image b.at
      then_fine = read_then l params me image at t.read _ refl k b.at then_at

      pub else_fine : (ps : List Procedure) (form result : ℕ) (pc rc : Bool) (a : Walked) (around : List ConstantLoop)
          → a ≡ walked_block ps arrays types around form result pc rc b.best (read_block (l - 1) params me image b.at)
          → BlockRead (l - 1) params me image a.cursor.at
      else_fine ps form result pc rc a around g =
          read_else l params me image at t.read _ refl k b.at then_at a.cursor.at
          (walked_block_next ps arrays types around form result pc rc b.best _ a g)

    module _ (k : op_of (get_or image at 0) ≡ 3) (v : Limited)
        (h : (unwrap_or v.inside unbounded, v.cursor) ≡ limited types arrays bounds context best (read_expression (l - 1) image (at + 1))
        (read_expression (l - 1) image (end_of (read_expression (l - 1) image (at + 1))))) where
      bounds_end : (e : Expression) (n : ℕ) (f : Expression) (m : ℕ) → read_expression (l - 1) image (at + 1) ≡ got e n
          → read_expression (l - 1) image n ≡ got f m → v.cursor.at ≡ m
      unfolding limited
      bounds_end e n f m q s = ap (λ (z : ConstantLoop × Cursor). z.1.at) h ∙ rw (end_of_lem _ e n q, q, s) refl

      pub body_fine : BlockRead (l - 1) params me image v.cursor.at
      body_fine =
          let (e, n, f, m, b, o, q, s, u, w) = open_for l params me image at t.read k in
          read_body l params me image at t.read _ refl k v.cursor.at
          (bounds_end e n f m q s ∙ sym (ap (λ z. end_of (read_expression (l - 1) image z)) (end_of_lem _ e n q) ∙ end_of_lem _ f m s))

pub ruleset fine = (op_there, condition_fine, bounds_fine, then_fine, else_fine, body_fine, block_ready, next_statement)

-- ---- if and for

-- the fault of a branch may be noted after those in its condition
late : (b : Fault) (c : Bool) (p : ℕ) (fs : List Fault) → least (least b fs) (fault_if c 13 p) ≡ least (least b (fault_if c 13 p)) fs
late = least_late 13 (omega arith)

module _ (ps : List Procedure) (arrays types : List ℕ) (bounds : List ConstantLoop) (form result : ℕ) (pc rc : Bool) (best : Fault)
    (l : ℕ) (params : List ℕ) (me : ℕ) (image : List ℕ) (at : ℕ) (t : StatementRead l params me image at) where
  abbrev Returned : Walked → Type 0
  Returned w = w ≡ walked ps arrays types bounds form result pc rc at best (read_statement l params me image at)

  pub walk_if : (c : Labelled) (judged : Cursor) (a b : Walked) (after : List ConstantLoop) → op_of (get_or image at 0) ≡ 2
      → c ≡ labelled types arrays bounds (pc || rc) best (read_expression (l - 1) image (at + 1))
      → judged ≡ ending c.cursor.at (least c.cursor.best (fault_if (eqb form 1 && c.secret) 13 at))
      → a ≡ walked_block ps arrays types bounds form result (pc || c.secret) rc judged.best (read_block (l - 1) params me image judged.at) → after ≡ bounds
      → b ≡ walked_block ps arrays types after form result (pc || c.secret) rc a.cursor.best (read_block (l - 1) params me image a.cursor.at)
      → Returned (walking (a.rc || b.rc) b.cursor)
  unfolding labelled walked walked_block rc_after statement_label_faults
  walk_if c judged a b after k h j g z f = let (d, n, x, m, y, o, q, s, u, w) = open_if l params me image at t.read k in go d n x m y o q s u w
    where
      go : (d : Expression) (n : ℕ) (x : Block) (m : ℕ) (y : Block) (o : ℕ) → read_expression (l - 1) image (at + 1) ≡ got d n
          → read_block (l - 1) params me image n ≡ got x m → read_block (l - 1) params me image m ≡ got y o
          → read_statement l params me image at ≡ got (conditional d x y) o → Returned (walking (a.rc || b.rc) b.cursor)
      go d n x m y o q s u w = rw (w, f, z, g, j, h, q, s, u) (simp (least_append, late))

  pub walk_for : (x : ℕ) (v : Limited) (after : Passed) (inside : List ConstantLoop) (b : Walked) → op_of (get_or image at 0) ≡ 3 → x ≡ target_of (get_or image at 0)
      → (unwrap_or v.inside unbounded, v.cursor) ≡ limited types arrays bounds (pc || rc) best (read_expression (l - 1) image (at + 1))
      (read_expression (l - 1) image (end_of (read_expression (l - 1) image (at + 1))))
      → after ≡ passed_block types arrays pc rc (read_block (l - 1) params me image v.cursor.at) → inside ≡ set bounds x (unwrap_or v.inside unbounded)
      → b ≡ walked_block ps arrays types inside form result pc after.rc v.cursor.best (read_block (l - 1) params me image v.cursor.at)
      → Returned (walking after.rc b.cursor)
  unfolding limited passed_block walked walked_block rc_after statement_label_faults
  walk_for x v after inside b k hx h g y j =
      told (unwrap_or v.inside unbounded) v.cursor h g y j
    where
      told : (i : ConstantLoop) (c : Cursor) → (i, c) ≡ limited types arrays bounds (pc || rc) best (read_expression (l - 1) image (at + 1))
          (read_expression (l - 1) image (end_of (read_expression (l - 1) image (at + 1))))
          → after ≡ passed_block types arrays pc rc (read_block (l - 1) params me image c.at) → inside ≡ set bounds x i
          → b ≡ walked_block ps arrays types inside form result pc after.rc c.best (read_block (l - 1) params me image c.at)
          → Returned (walking after.rc b.cursor)
      told i c h g y j = let (e, n, f, m, d, o, q, s, u, w) = open_for l params me image at t.read k in go e n f m d o q s u w
        where
          go : (e : Expression) (n : ℕ) (f : Expression) (m : ℕ) (d : Block) (o : ℕ) → read_expression (l - 1) image (at + 1) ≡ got e n
              → read_expression (l - 1) image n ≡ got f m → read_block (l - 1) params me image m ≡ got d o
              → read_statement l params me image at ≡ got (loop (target_of (get_or image at 0)) e f d) o → Returned (walking after.rc b.cursor)
          go e n f m d o q s u w =
              let hc : c ≡ (limited types arrays bounds (pc || rc) best (read_expression (l - 1) image (at + 1)) (read_expression (l - 1) image (end_of (read_expression (l - 1) image (at + 1))))).1 =
              ap (λ (z : ConstantLoop × Cursor). z.1) h in
              let hi : i ≡ (limited types arrays bounds (pc || rc) best (read_expression (l - 1) image (at + 1)) (read_expression (l - 1) image (end_of (read_expression (l - 1) image (at + 1))))).0 =
              ap (λ (z : ConstantLoop × Cursor). z.0) h in
              rw (w, j, y, g, hc, hi, end_of_lem _ e n q, q, s, u, hx) (simp least_append)

-- what is put back after a for is what was there
pub kept : (bounds : List ConstantLoop) (x : ℕ) (before : Option ConstantLoop) (i : ConstantLoop) (inside inner after : List ConstantLoop)
    → unwrap_or before unbounded ≡ get_or bounds x unbounded → inside ≡ set bounds x i → inner ≡ inside → after ≡ set inner x (unwrap_or before unbounded)
    → after ≡ bounds
kept bounds x before i inside inner after h g e k = put_back unbounded bounds inside inner after x i (unwrap_or before unbounded) h g e k

-- ---- the statements of a block that are left

module _ (ps : List Procedure) (arrays types : List ℕ) (bounds : List ConstantLoop) (form result : ℕ) (pc rc : Bool)
    (l : ℕ) (params : List ℕ) (me : ℕ) (image : List ℕ) where
  pub block_begin : (at : ℕ) (best : Fault) (n : ℕ) → BlockRead l params me image at → n ≡ payload_of (get_or image at 0)
      → walked_block ps arrays types bounds form result pc rc best (statements_at (n - 0) (l - 1) params me image (at + 1))
      ≡ walked_block ps arrays types bounds form result pc rc best (read_block l params me image at)
  block_begin at best n t h = rw (block_begins l params me image at t.read n h)

  module _ (n j : ℕ) (here : Cursor) where
    module _ (X : Walked) (d : walked_block ps arrays types bounds form result pc rc here.best (statements_at (n - j) l params me image here.at) ≡ X) where
      pub block_done : n ≤ j → walking rc here ≡ X
      unfolding walked_block rc_after_block block_label_faults least
      block_done h =
          let z : n - j ≡ 0 = omega arith in
          sym (ap (λ k. walked_block ps arrays types bounds form result pc rc here.best k)
          (ap (λ k. statements_at k l params me image here.at) z ∙ no_statement l params me image here.at)) ∙ d

      pub block_more : ok (statements_at (n - j) l params me image here.at) ≡ true → j < n → (s : Walked) (after : List ConstantLoop)
          → s ≡ walked ps arrays types bounds form result pc rc here.at here.best (read_statement l params me image here.at) → after ≡ bounds
          → walked_block ps arrays types after form result pc s.rc s.cursor.best (statements_at (n - (j + 1)) l params me image s.cursor.at) ≡ X
      unfolding walked walked_block rc_after_block block_label_faults
      block_more t h s after g y = let (c, m, b, o, q, r, v) = first_statement (n - j) l params me image here.at t (omega arith) in go c m b o q r v
        where
          go : (c : Statement) (m : ℕ) (b : Block) (o : ℕ) → read_statement l params me image here.at ≡ got c m
              → statements_at (n - j - 1) l params me image m ≡ got b o → statements_at (n - j) l params me image here.at ≡ got (sequence here.at c b) o
              → walked_block ps arrays types after form result pc s.rc s.cursor.best (statements_at (n - (j + 1)) l params me image s.cursor.at) ≡ X
          go c m b o q r v =
              let z : n - (j + 1) ≡ n - j - 1 = omega arith in
              rw (y, z, g, q, r)
              (ap (walk (rc_after_block types arrays pc (rc_after types arrays pc rc c) b) o) (sym (least_append here.best _ _))
              ∙ sym (ap (λ k. walked_block ps arrays types bounds form result pc rc here.best k) v) ∙ d)

    pub block_again : ok (statements_at (n - j) l params me image here.at) ≡ true → j < n → (s : Walked)
        → s ≡ walked ps arrays types bounds form result pc rc here.at here.best (read_statement l params me image here.at)
        → ok (statements_at (n - (j + 1)) l params me image s.cursor.at) ≡ true
    block_again t h s g = statements_left l params me image here.at n j t h s.cursor.at (walked_next ps arrays types bounds form result pc rc here.best here.at _ s g)

pub ruleset walks = (walk_if, walk_for, kept)

pub ruleset blocks = (block_begin, block_done, block_more, block_again)
