-- The rules of the loop over the statements of a block. Assumes nothing.
use Prim.Native.Nat.{ℕ, ◌+◌, ◌-◌, ◌≤◌, ◌<◌}
use mathlib.Core.Bool.{true}
use mathlib.Core.List.{List}
use mathlib.Core.Path.{◌≡◌, refl, sym, ap, ◌∙◌}
use native.Mathlib.Omega.{arith}
use lib.ListN.{get_or}
use Rattle.definitions.specs.Image.{payload_of, Statement, Block, done, sequence}
use Rattle.definitions.specs.Reading.{Parse, got, refused, read_statement, read_block}
use Rattle.definitions.specs.StepBounds.{block_cost, statement_variable_fors, block_variable_fors}
use Rattle.laws.specs.Parses.{ok}
use Rattle.image_words.specs.Read.{statements_at}
use Rattle.image_words.specs.StatementParts.{no_statement, first_statement, read_statements_lem, block_statements}
use Rattle.step_bounds.specs.Counting.{lowest_at, statement_lowest, block_lowest, counted, counted_block, nothing}
use Rattle.step_bounds.specs.declared.walk.Summary.{Summary}
use Rattle.step_bounds.specs.declared.walk.Counted.{Counted}
use Rattle.step_bounds.proofs.Rules.{counted_eq, counted_end, first_append, none_first, lower_none, lower_lower}

module _ (callees : List Summary) (c : Counted) where
  none_left : c.cost ≤ 4294967296 → (m : ℕ) → counted_block callees c (got done m) ≡ nothing c m
  unfolding counted_block block_cost block_variable_fors block_lowest
  none_left h m = counted_eq m _ _ _ _ _ _ (omega arith) (none_first c.first) (lower_none c.lowest)

  then_left : (x : Statement) (b : Block) (m i : ℕ)
      → counted_block callees (counted callees c (got x i)) (got b m) ≡ counted_block callees c (got (sequence c.at x b) m)
  unfolding counted counted_block block_cost block_variable_fors block_lowest
  then_left x b m i =
      counted_eq m _ _ _ _ _ _ (omega arith) (first_append c.first (statement_variable_fors c.at x) (block_variable_fors b))
      (lower_lower c.lowest (statement_lowest (lowest_at callees) x) (block_lowest (lowest_at callees) b))

  -- the place where a walk begins is told by what is read there
  pub place_apart : (at : ℕ) (x : Parse Block) → counted_block callees (nothing c at) x ≡ counted_block callees c x
  unfolding counted_block
  place_apart at (got b m) = refl
  place_apart at (refused m p) = refl

module _ (callees : List Summary) (l : ℕ) (params : List ℕ) (me : ℕ) (image : List ℕ) where
  pub block_begin : (c : Counted) (at n : ℕ) → ok (read_block l params me image at) ≡ true → n ≡ payload_of (get_or image at 0)
      → counted_block callees c (statements_at (n - 0) (l - 1) params me image (at + 1)) ≡ counted_block callees c (read_block l params me image
      at)
  block_begin c at n t h =
      let e : n - 0 ≡ payload_of (get_or image at 0) = omega arith in rw (e, (block_statements l params me image at t).1)

  module _ (count j : ℕ) (c : Counted) where
    module _ (X : Counted) (u : counted_block callees c (statements_at (count - j) l params me image c.at) ≡ X) where
      pub block_done : c.cost ≤ 4294967296 → count ≤ j → c ≡ X
      block_done k h =
          let z : count - j ≡ 0 = omega arith in
          sym (ap (λ y. counted_block callees c y)
          (ap (λ i. statements_at i l params me image c.at) z ∙ no_statement l params me image c.at)
          ∙ none_left callees c k c.at) ∙ u

      pub block_more : (r : Counted) → ok (statements_at (count - j) l params me image c.at) ≡ true → j < count
          → r ≡ counted callees c (read_statement l params me image c.at)
          → counted_block callees r (statements_at (count - (j + 1)) l params me image r.at) ≡ X
      unfolding counted
      block_more r t h e =
          let (x, m, b, p, q, v, w) = first_statement (count - j) l params me image c.at t (omega arith) in
          let z : count - (j + 1) ≡ count - j - 1 = omega arith in
          let E : r ≡ counted callees c (got x m) = e ∙ ap (λ y. counted callees c y) q in
          ap (λ (y : Counted). counted_block callees y (statements_at (count - (j + 1)) l params me image y.at)) E
          ∙ ap (λ y. counted_block callees (counted callees c (got x m)) y) (ap (λ i. statements_at i l params me image m) z ∙ v)
          ∙ then_left callees c x b p m
          ∙ sym (ap (λ y. counted_block callees c y) w) ∙ u

    pub block_again : (r : Counted) → ok (statements_at (count - j) l params me image c.at) ≡ true → j < count
        → r ≡ counted callees c (read_statement l params me image c.at)
        → ok (statements_at (count - (j + 1)) l params me image r.at) ≡ true
    block_again r t h e =
        let z : count - (j + 1) ≡ count - j - 1 = omega arith in
        rw z (read_statements_lem (count - j) l params me image c.at r.at t (omega arith) (counted_end callees c _ r e))
