-- An image is admitted where it was read and has no fault, and all its answers come from that. Assumes nothing.
use Rattle.std.specs.Prelude.{◌≡◌, refl, Bool, List, ℕ}
use Rattle.std.proofs.Common.{ap, arith}
use Rattle.std.proofs.Math.Bool.{true, false}
use borrow.Author.Tests.{eqb-true, eq-eqb}
use Rattle.std.proofs.Math.Dec.{eqb}
use Rattle.definitions.specs.Choice.{pick}
use Rattle.definitions.specs.declared.Checked.TheVariants.{Accepted}
use Rattle.definitions.specs.Image.{Image}
use Rattle.definitions.specs.Reading.{Parse, got, refused, read_image}
use Rattle.definitions.specs.Checking.{fault_of, without_fault, admitted, verdict, checked}
use Rattle.definitions.specs.Compiling.{compiled}
use Rattle.definitions.specs.Describing.{described}
use Rattle.definitions.specs.Requests.{ready_to_load}
use Rattle.statements.specs.FormerAnswers.{AnswersAs}

module _ (whole : Bool) (words : List ℕ) (tree : Image) (n : ℕ) where
  pub admit : read_image whole words ≡ got tree n → (fault_of tree).number ≡ 0 → admitted whole words ≡ got tree n
  unfolding admitted without_fault
  admit e h = rw (e, eq-eqb (fault_of tree).number 0 h)

  pub admitted_read : admitted whole words ≡ got tree n → (read_image whole words ≡ got tree n) × ((fault_of tree).number ≡ 0)
  unfolding admitted without_fault
  admitted_read = by_parse (read_image whole words)
    where
      by_test : (t : Image) (m : ℕ) (b : Bool) → eqb (fault_of t).number 0 ≡ b
          → pick b (got t m) (refused (fault_of t).number (fault_of t).place) ≡ got tree n
          → (got t m ≡ got tree n) × ((fault_of tree).number ≡ 0)
      by_test t m true e h = let same : t ≡ tree = cc in (h, rw same at (eqb-true (fault_of t).number 0 e))
      by_test t m false e h = (cc, cc)

      by_parse : (x : Parse Image) → without_fault x ≡ got tree n → (x ≡ got tree n) × ((fault_of tree).number ≡ 0)
      by_parse (got t m) h = by_test t m (eqb (fault_of t).number 0) refl h
      by_parse (refused k p) h = (cc, cc)

-- the checker accepts what is admitted
pub accepted_admitted : (whole : Bool) (words : List ℕ) → checked whole words ≡ Accepted → (tree : Image) × (n : ℕ) × (admitted whole words ≡ got tree n)
unfolding checked verdict
accepted_admitted whole words = go (admitted whole words) refl
  where
    go : (x : Parse Image) → admitted whole words ≡ x → verdict x ≡ Accepted → (tree : Image) × (n : ℕ) × (admitted whole words ≡ got tree n)
    go (got tree n) e h = (tree, n, e)
    go (refused n p) e h = let z : ◌≡◌ {A = ℕ} 0 1 = cc in (absurd (omega arith))

-- what is admitted is all that an answer takes from the rules
pub answers_as : (whole : Bool) (image : List ℕ) (x : Parse Image) → admitted whole image ≡ x → AnswersAs x whole image
unfolding checked compiled described ready_to_load
answers_as whole image x e =
    record { checks = ap verdict e; compiles = λ out. rw e refl; describes = λ out. rw e refl; readies = λ count. rw e refl }
