-- What each return of the walk over a statement or a block gives, and what its calls ask. Assumes nothing.
use Prim.Native.Nat.{ℕ, ◌+◌, ◌-◌, ◌≤◌, ◌<◌}
use mathlib.Core.Bool.{Bool, true, ◌||◌}
use mathlib.Core.List.{List}
use mathlib.Core.Path.{◌≡◌, refl, sym, ap, ◌∙◌}
use native.Mathlib.Omega.{arith}
use lib.ListN.{get_or}
use Rattle.definitions.specs.Image.{payload_of, op_of, target_of, called_of, result_of, Expression, Statement, assign, store}
use Rattle.definitions.specs.Image.{conditional, loop, return, call, Block, sequence}
use Rattle.definitions.specs.Reading.{Parse, got, refused, read_expression, read_arguments, read_statement, read_block}
use Rattle.definitions.specs.Labels.{rc_after, rc_after_block}
use Rattle.laws.specs.Parses.{ok, ok_of, end_of, end_of_lem}
use Rattle.laws.specs.StatementInversion.{open_assign, open_store, open_if, open_for, open_return, open_call}
use Rattle.image_words.specs.Read.{ExpressionRead, StatementRead, BlockRead, arguments_at, statements_at}
use Rattle.image_words.specs.StatementParts.{op_there, no_statement, first_statement, read_statements_lem}
use Rattle.image_words.specs.StatementParts.{read_assign, read_store, read_return, read_if, read_then, read_else, read_bounds, read_body}
use Rattle.image_words.specs.Skipping.{Row, Skippable, skip_expression, skip_pair, skipped_expression, skipped_pair, skipped_two}
use Rattle.image_words.specs.Skipping.{skipped_arguments}
use Rattle.image_words.specs.Rest.{block_ready, block_begins, next_statement, call_skips}
use Rattle.contexts.specs.Context.{passing, seen, passed, passed_block}
use Rattle.contexts.specs.declared.Seen.{Seen}
use Rattle.contexts.specs.declared.Passed.{Passed}
use Rattle.contexts.proofs.Sight.{seen_next}

pub passed_next : (types arrays : List ℕ) (pc rc : Bool) (x : Parse Statement) (r : Passed) → r ≡ passed types arrays pc rc x → r.next ≡ end_of x
unfolding passed end_of
passed_next types arrays pc rc (got s n) r e = ap (λ (z : Passed). z.next) e
passed_next types arrays pc rc (refused n p) r e = ap (λ (z : Passed). z.next) e

pub block_next : (types arrays : List ℕ) (pc rc : Bool) (x : Parse Block) (r : Passed) → r ≡ passed_block types arrays pc rc x → r.next ≡ end_of x
unfolding passed_block end_of
block_next types arrays pc rc (got s n) r e = ap (λ (z : Passed). z.next) e
block_next types arrays pc rc (refused n p) r e = ap (λ (z : Passed). z.next) e

-- what the calls ask
module _ (l : ℕ) (params : List ℕ) (me : ℕ) (image : List ℕ) (at : ℕ) (t : StatementRead l params me image at) where
  pub assign_skips : op_of (get_or image at 0) ≡ 0 → Skippable image 1 (at + 1)
  assign_skips k = skip_expression _ _ _ (read_assign l params me image at t.read _ refl k).read

  pub store_skips : op_of (get_or image at 0) ≡ 1 → Skippable image 2 (at + 1)
  store_skips k = skip_pair _ _ _ (read_store l params me image at t.read _ refl k)

  pub bounds_skip : op_of (get_or image at 0) ≡ 3 → Skippable image 2 (at + 1)
  bounds_skip k = skip_pair _ _ _ (read_bounds l params me image at t.read _ refl k)

  pub return_skips : op_of (get_or image at 0) ≡ 4 → Skippable image 1 (at + 1)
  return_skips k = skip_expression _ _ _ (read_return l params me image at t.read _ refl k).read

  pub values_skip : op_of (get_or image at 0) ≡ 5 → (f c i : ℕ) → f ≡ called_of (get_or image at 0) → c ≡ get_or params f 0 → i ≡ c
      → Skippable image i (at + 1)
  values_skip k f c i hf hc hi = call_skips l params me image at t.read _ refl k f c i hf hc hi

  pub condition_fine : op_of (get_or image at 0) ≡ 2 → ExpressionRead (l - 1) image (at + 1)
  condition_fine k = read_if l params me image at t.read _ refl k

  pub for_fine : (v : ℕ) → op_of (get_or image at 0) ≡ 3 → Row image 2 (at + 1) v → BlockRead (l - 1) params me image v
  for_fine v k h =
      read_body l params me image at t.read _ refl k v
      (skipped_pair (l - 1) image (at + 1) v (read_bounds l params me image at t.read _ refl k) h)

  module _ (k : op_of (get_or image at 0) ≡ 2) (types arrays : List ℕ) (c : Seen) (h : c ≡ seen types arrays (read_expression (l - 1) image (at + 1))) where
    pub then_fine : BlockRead (l - 1) params me image c.next
    then_fine = read_then l params me image at t.read _ refl k c.next (seen_next types arrays _ c h)

    pub else_fine : (pc rc : Bool) (a : Passed) → a ≡ passed_block types arrays pc rc (read_block (l - 1) params me image c.next)
        → BlockRead (l - 1) params me image a.next
    else_fine pc rc a g =
        read_else l params me image at t.read _ refl k c.next (seen_next types arrays _ c h) a.next (block_next types arrays pc rc _ a g)

module _ (types arrays : List ℕ) (pc rc : Bool) (l : ℕ) (params : List ℕ) (me : ℕ) (image : List ℕ) (at : ℕ)
    (t : StatementRead l params me image at) where
  pub pass_assign : (r : ℕ) → op_of (get_or image at 0) ≡ 0 → Row image 1 (at + 1) r
      → passing rc r ≡ passed types arrays pc rc (read_statement l params me image at)
  unfolding passed rc_after
  pass_assign r k h = let (e, n, q, u) = open_assign l params me image at t.read k in go e n q u
    where
      go : (e : Expression) (n : ℕ) → read_expression (l - 1) image (at + 1) ≡ got e n
          → read_statement l params me image at ≡ got (assign (target_of (get_or image at 0)) e) n
          → passing rc r ≡ passed types arrays pc rc (read_statement l params me image at)
      go e n q u = rw (u, skipped_expression (l - 1) image (at + 1) r (ok_of _ e n q) h ∙ end_of_lem _ e n q)

  pub pass_store : (r : ℕ) → op_of (get_or image at 0) ≡ 1 → Row image 2 (at + 1) r
      → passing rc r ≡ passed types arrays pc rc (read_statement l params me image at)
  unfolding passed rc_after
  pass_store r k h = let (e, n, f, m, q, s, u) = open_store l params me image at t.read k in go e n f m q s u
    where
      go : (e : Expression) (n : ℕ) (f : Expression) (m : ℕ) → read_expression (l - 1) image (at + 1) ≡ got e n → read_expression (l - 1) image n ≡ got f m
          → read_statement l params me image at ≡ got (store (target_of (get_or image at 0)) e f) m
          → passing rc r ≡ passed types arrays pc rc (read_statement l params me image at)
      go e n f m q s u = rw (u, skipped_two (l - 1) image (at + 1) r e n f m q s h)

  pub pass_return : (r : ℕ) → op_of (get_or image at 0) ≡ 4 → Row image 1 (at + 1) r
      → passing (pc || rc) r ≡ passed types arrays pc rc (read_statement l params me image at)
  unfolding passed rc_after
  pass_return r k h = let (e, n, q, u) = open_return l params me image at t.read k in go e n q u
    where
      go : (e : Expression) (n : ℕ) → read_expression (l - 1) image (at + 1) ≡ got e n → read_statement l params me image at ≡ got (return e) n
          → passing (pc || rc) r ≡ passed types arrays pc rc (read_statement l params me image at)
      go e n q u = rw (u, skipped_expression (l - 1) image (at + 1) r (ok_of _ e n q) h ∙ end_of_lem _ e n q)

  pub pass_for : (v : ℕ) (r : Passed) → op_of (get_or image at 0) ≡ 3 → Row image 2 (at + 1) v
      → r ≡ passed_block types arrays pc rc (read_block (l - 1) params me image v)
      → r ≡ passed types arrays pc rc (read_statement l params me image at)
  unfolding passed passed_block rc_after
  pass_for v r k h g = let (e, n, f, m, b, o, q, s, u, w) = open_for l params me image at t.read k in go e n f m b o q s u w
    where
      go : (e : Expression) (n : ℕ) (f : Expression) (m : ℕ) (b : Block) (o : ℕ) → read_expression (l - 1) image (at + 1) ≡ got e n
          → read_expression (l - 1) image n ≡ got f m → read_block (l - 1) params me image m ≡ got b o
          → read_statement l params me image at ≡ got (loop (target_of (get_or image at 0)) e f b) o
          → r ≡ passed types arrays pc rc (read_statement l params me image at)
      go e n f m b o q s u w = rw (w, g, skipped_two (l - 1) image (at + 1) v e n f m q s h, u)

  pub pass_call : (f c i n : ℕ) → op_of (get_or image at 0) ≡ 5 → f ≡ called_of (get_or image at 0) → c ≡ get_or params f 0 → i ≡ c → Row image i (at + 1) n
      → passing rc n ≡ passed types arrays pc rc (read_statement l params me image at)
  unfolding passed rc_after arguments_at
  pass_call f c i n k hf hc hi h = let (es, m, b, q, u) = open_call l params me image at t.read k in go es m q u (hi ∙ hc ∙ ap (λ (z : ℕ). get_or params z 0) hf)
    where
      go : (es : List Expression) (m : ℕ)
          → read_arguments (get_or params (called_of (get_or image at 0)) 0) (λ a. read_expression (l - 1) image a) (at + 1) ≡ got es m
          → read_statement l params me image at ≡ got (call (called_of (get_or image at 0)) (result_of (get_or image at 0)) es) m
          → i ≡ get_or params (called_of (get_or image at 0)) 0
          → passing rc n ≡ passed types arrays pc rc (read_statement l params me image at)
      go es m q u e =
          rw (u, skipped_arguments (get_or params (called_of (get_or image at 0)) 0) (l - 1) image (at + 1) n (ok_of _ es m q) (rw e at h) ∙ end_of_lem _ es m q)

  module _ (k : op_of (get_or image at 0) ≡ 2) (c : Seen) (h : c ≡ seen types arrays (read_expression (l - 1) image (at + 1))) where
    pub pass_if : (a b : Passed) → a ≡ passed_block types arrays (pc || c.secret) rc (read_block (l - 1) params me image c.next)
        → b ≡ passed_block types arrays (pc || c.secret) rc (read_block (l - 1) params me image a.next)
        → passing (a.rc || b.rc) b.next ≡ passed types arrays pc rc (read_statement l params me image at)
    unfolding passed passed_block rc_after seen
    pass_if a b g f = let (d, n, x, m, y, o, q, s, u, w) = open_if l params me image at t.read k in go d n x m y o q s u w
      where
        go : (d : Expression) (n : ℕ) (x : Block) (m : ℕ) (y : Block) (o : ℕ) → read_expression (l - 1) image (at + 1) ≡ got d n
            → read_block (l - 1) params me image n ≡ got x m → read_block (l - 1) params me image m ≡ got y o
            → read_statement l params me image at ≡ got (conditional d x y) o
            → passing (a.rc || b.rc) b.next ≡ passed types arrays pc rc (read_statement l params me image at)
        go d n x m y o q s u w = rw (w, f, g, h, q, s, u)

module _ (types arrays : List ℕ) (pc : Bool) (l : ℕ) (params : List ℕ) (me : ℕ) (image : List ℕ) where
  pub block_begin : (rc : Bool) (at n : ℕ) → BlockRead l params me image at → n ≡ payload_of (get_or image at 0)
      → passed_block types arrays pc rc (statements_at (n - 0) (l - 1) params me image (at + 1)) ≡ passed_block types arrays pc rc (read_block l params me image at)
  block_begin rc at n t h = rw (block_begins l params me image at t.read n h)

  module _ (n at j : ℕ) (rc : Bool) where
    pub block_done : (X : Passed) → passed_block types arrays pc rc (statements_at (n - j) l params me image at) ≡ X → n ≤ j → passing rc at ≡ X
    unfolding passed_block rc_after_block
    block_done X e h =
        let z : n - j ≡ 0 = omega arith in
        sym (ap (λ k. passed_block types arrays pc rc k) (ap (λ k. statements_at k l params me image at) z ∙ no_statement l params me image at)) ∙ e

    module _ (t : ok (statements_at (n - j) l params me image at) ≡ true) (h : j < n) where
      module _ (s : Passed) (g : s ≡ passed types arrays pc rc (read_statement l params me image at)) where
        pub block_again : ok (statements_at (n - (j + 1)) l params me image s.next) ≡ true
        block_again =
            let z : n - (j + 1) ≡ n - j - 1 = omega arith in
            rw z (read_statements_lem (n - j) l params me image at s.next t (omega arith) (passed_next types arrays pc rc _ s g))

        pub block_more : (X : Passed) → passed_block types arrays pc rc (statements_at (n - j) l params me image at) ≡ X
            → passed_block types arrays pc s.rc (statements_at (n - (j + 1)) l params me image s.next) ≡ X
        unfolding passed passed_block rc_after_block
        block_more X u =
            let (d, m, b, o, q, r, v) = first_statement (n - j) l params me image at t (omega arith) in go d m b o q r v
          where
            go : (d : Statement) (m : ℕ) (b : Block) (o : ℕ) → read_statement l params me image at ≡ got d m
                → statements_at (n - j - 1) l params me image m ≡ got b o → statements_at (n - j) l params me image at ≡ got (sequence at d b) o
                → passed_block types arrays pc s.rc (statements_at (n - (j + 1)) l params me image s.next) ≡ X
            go d m b o q r v =
                let z : n - (j + 1) ≡ n - j - 1 = omega arith in
                rw (z, g, q, r) (sym (ap (λ k. passed_block types arrays pc rc k) v) ∙ u)

pub ruleset skips = (op_there, assign_skips, store_skips, bounds_skip, return_skips, values_skip)

pub ruleset fine = (condition_fine, for_fine, then_fine, else_fine, block_ready, next_statement)

pub ruleset passes = (pass_assign, pass_store, pass_return, pass_for, pass_call, pass_if)

pub ruleset statements = (block_begin, block_done, block_again, block_more)
