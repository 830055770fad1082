-- The context rc: once secret it stays so, and a for's block that ends with a secret rc begins with one. Assumes nothing.
use Rattle.std.specs.Prelude.{◌≡◌, refl, Bool, false, ◌||◌, List, ℕ}
use Rattle.std.proofs.Common.{sym, ◌∙◌}
use Rattle.std.proofs.Math.Bool.{true}
use Rattle.definitions.specs.Image.{Expression, Statement, assign, store, conditional, loop, return, call, Block, done}
use Rattle.definitions.specs.Image.{sequence}
use Rattle.definitions.specs.Labels.{secret_in, rc_after, rc_after_block}
use Rattle.laws.specs.Tests.{or_true, or_false, or_left, or_right}

module _ (types arrays : List ℕ) where
  mutual
    unfolding rc_after rc_after_block

    pub rc_stays : (s : Statement) (pc : Bool) → rc_after types arrays pc true s ≡ true
    rc_stays (assign x e) pc = refl
    rc_stays (store a i e) pc = refl
    rc_stays (conditional c a b) pc = rw (rc_stays_block a (pc || secret_in types arrays c)) refl
    rc_stays (loop x f t b) pc = rc_stays_block b pc
    rc_stays (return e) pc = or_true pc
    rc_stays (call f x es) pc = refl

    pub rc_stays_block : (b : Block) (pc : Bool) → rc_after_block types arrays pc true b ≡ true
    rc_stays_block done pc = refl
    rc_stays_block (sequence l s b) pc = rw (rc_stays s pc) (rc_stays_block b pc)

  pub rc_rises : (s : Statement) (pc rc : Bool) → rc ≡ true → rc_after types arrays pc rc s ≡ true
  rc_rises s pc rc e = rw e (rc_stays s pc)

  pub rc_rises_block : (b : Block) (pc rc : Bool) → rc ≡ true → rc_after_block types arrays pc rc b ≡ true
  rc_rises_block b pc rc e = rw e (rc_stays_block b pc)

  -- a for's block, run with the rc that it ends with, does not raise it further
  pub rc_again : (b : Block) (pc rc : Bool) → rc_after_block types arrays pc (rc_after_block types arrays pc rc b) b ≡ true → rc_after_block types arrays pc rc b ≡ true
  rc_again b pc true e = rc_stays_block b pc
  rc_again b pc false e = go (rc_after_block types arrays pc false b) refl e
    where
      go : (r : Bool) → rc_after_block types arrays pc false b ≡ r → rc_after_block types arrays pc r b ≡ true → r ≡ true
      go true f g = refl
      go false f g = sym f ∙ g

  -- an if ends with a secret rc where an arm does
  module _ (c : Expression) (a b : Block) (pc rc : Bool) where
    pub rc_secret_then : secret_in types arrays c ≡ true → rc_after_block types arrays true rc a ≡ true → rc_after types arrays pc rc (conditional c a b) ≡ true
    unfolding rc_after
    rc_secret_then e q = rw (e, or_true pc) (or_left (rc_after_block types arrays true rc a) (rc_after_block types arrays true rc b) q)

    pub rc_secret_else : secret_in types arrays c ≡ true → rc_after_block types arrays true rc b ≡ true → rc_after types arrays pc rc (conditional c a b) ≡ true
    unfolding rc_after
    rc_secret_else e q = rw (e, or_true pc) (or_right (rc_after_block types arrays true rc a) (rc_after_block types arrays true rc b) q)

    pub rc_public_then : secret_in types arrays c ≡ false → rc_after_block types arrays pc rc a ≡ true → rc_after types arrays pc rc (conditional c a b) ≡ true
    unfolding rc_after
    rc_public_then e q = rw (e, or_false pc) (or_left (rc_after_block types arrays pc rc a) (rc_after_block types arrays pc rc b) q)

    pub rc_public_else : secret_in types arrays c ≡ false → rc_after_block types arrays pc rc b ≡ true → rc_after types arrays pc rc (conditional c a b) ≡ true
    unfolding rc_after
    rc_public_else e q = rw (e, or_false pc) (or_right (rc_after_block types arrays pc rc a) (rc_after_block types arrays pc rc b) q)
