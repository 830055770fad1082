-- The rules of the loop over the statements of a block. Assumes nothing.
use Prim.Native.Nat.{ℕ, ◌+◌, ◌-◌, ◌≤◌, ◌<◌, max}
use mathlib.Core.Bool.{Bool, true, or_assoc}
use mathlib.Core.List.{List}
use mathlib.Core.Path.{◌≡◌, refl, sym, ap, ◌∙◌}
use native.Mathlib.Omega.{arith}
use lib.ListN.{get_or}
use Rattle.definitions.specs.Image.{payload_of, Statement, Block, done, sequence, Procedure}
use Rattle.definitions.specs.Reading.{Parse, got, refused, read_statement, read_block}
use Rattle.definitions.specs.Labels.{rc_after}
use Rattle.definitions.specs.Compiling.{statement_nesting, block_nesting, statement_needs}
use Rattle.laws.specs.Parses.{ok, end_of}
use Rattle.laws.specs.Tests.{or_false}
use Rattle.image_words.specs.Read.{statements_at}
use Rattle.image_words.specs.StatementParts.{no_statement, first_statement, read_statements_lem, block_statements}
use Rattle.locals.specs.Walk.{found, found_block, nothing}
use Rattle.locals.specs.declared.Found.{Found}
use Rattle.locals.proofs.Rules.{found_eq}

module _ (ps : List Procedure) (arrays types : List ℕ) (pc : Bool) (c : Found) where
  statement_end : (x : Parse Statement) (r : Found) → r ≡ found ps arrays types pc c x → r.at ≡ end_of x
  unfolding found end_of
  statement_end (got a m) r e = ap (λ (z : Found). z.at) e
  statement_end (refused m p) r e = ap (λ (z : Found). z.at) e

  none_left : (m : ℕ) → found_block ps arrays types pc c (got done m) ≡ nothing c m
  unfolding found_block statement_nesting statement_needs rc_after
  none_left m = found_eq m c.rc _ _ _ _ _ _ (omega arith) (or_false c.words) (or_false c.booleans)

  then_left : (p : ℕ) (x : Statement) (b : Block) (m i : ℕ)
      → found_block ps arrays types pc (found ps arrays types pc c (got x i)) (got b m) ≡ found_block ps arrays types pc c (got (sequence p x b) m)
  unfolding found found_block statement_nesting statement_needs rc_after
  then_left p x b m i =
      let z : max (max c.levels (statement_nesting arrays types x)) (block_nesting arrays types b)
      ≡ max c.levels (max (statement_nesting arrays types x) (block_nesting arrays types b)) = omega arith in
      found_eq m _ _ _ _ _ _ _ z (or_assoc c.words _ _) (or_assoc c.booleans _ _)

  -- the place where a walk begins is told by what is read there
  pub place_apart : (at : ℕ) (x : Parse Block) → found_block ps arrays types pc (nothing c at) x ≡ found_block ps arrays types pc c x
  unfolding found_block
  place_apart at (got b m) = refl
  place_apart at (refused m p) = refl

module _ (ps : List Procedure) (arrays types : List ℕ) (pc : Bool) (l : ℕ) (params : List ℕ) (me : ℕ) (image : List ℕ) where
  pub block_begin : (c : Found) (at n : ℕ) → ok (read_block l params me image at) ≡ true → n ≡ payload_of (get_or image at 0)
      → found_block ps arrays types pc c (statements_at (n - 0) (l - 1) params me image (at + 1))
      ≡ found_block ps arrays types pc c (read_block l params me image at)
  block_begin c at n t h =
      let e : n - 0 ≡ payload_of (get_or image at 0) = omega arith in rw (e, (block_statements l params me image at t).1)

  module _ (count j : ℕ) (c : Found) where
    module _ (X : Found) (u : found_block ps arrays types pc c (statements_at (count - j) l params me image c.at) ≡ X) where
      pub block_done : count ≤ j → c ≡ X
      block_done h =
          let z : count - j ≡ 0 = omega arith in
          sym (ap (λ y. found_block ps arrays types pc c y)
          (ap (λ i. statements_at i l params me image c.at) z ∙ no_statement l params me image c.at)
          ∙ none_left ps arrays types pc c c.at) ∙ u

      pub block_more : (r : Found) → ok (statements_at (count - j) l params me image c.at) ≡ true → j < count
          → r ≡ found ps arrays types pc c (read_statement l params me image c.at)
          → found_block ps arrays types pc r (statements_at (count - (j + 1)) l params me image r.at) ≡ X
      unfolding found
      block_more r t h e =
          let (x, m, b, p, q, v, w) = first_statement (count - j) l params me image c.at t (omega arith) in
          let z : count - (j + 1) ≡ count - j - 1 = omega arith in
          let E : r ≡ found ps arrays types pc c (got x m) = e ∙ ap (λ y. found ps arrays types pc c y) q in
          ap (λ (y : Found). found_block ps arrays types pc y (statements_at (count - (j + 1)) l params me image y.at)) E
          ∙ ap (λ y. found_block ps arrays types pc (found ps arrays types pc c (got x m)) y) (ap (λ i. statements_at i l params me image m) z ∙ v)
          ∙ then_left ps arrays types pc c c.at x b p m
          ∙ sym (ap (λ y. found_block ps arrays types pc c y) w) ∙ u

    pub block_again : (r : Found) → ok (statements_at (count - j) l params me image c.at) ≡ true → j < count
        → r ≡ found ps arrays types pc c (read_statement l params me image c.at)
        → ok (statements_at (count - (j + 1)) l params me image r.at) ≡ true
    block_again r t h e =
        let z : count - (j + 1) ≡ count - j - 1 = omega arith in
        rw z (read_statements_lem (count - j) l params me image c.at r.at t (omega arith) (statement_end ps arrays types pc c _ r e))
