-- What the walk of a statement or a block that was read gives: the rc after it, the place after it, the lowest fault. Assumes nothing.
use Rattle.std.specs.Prelude.{ℕ, Bool, List}
use Rattle.definitions.specs.declared.Fault.{Fault}
use Rattle.definitions.specs.declared.ConstantLoop.{ConstantLoop}
use Rattle.definitions.specs.Image.{Statement, Block, Procedure}
use Rattle.definitions.specs.Reading.{Parse, got, refused}
use Rattle.definitions.specs.Faults.{least}
use Rattle.definitions.specs.Labels.{rc_after, rc_after_block, statement_label_faults, block_label_faults}
use Rattle.labels.specs.Cursors.{ending}
use Rattle.labels.specs.declared.Walked.{Walked}

abbrev pub walk : Bool → ℕ → Fault → Walked
walk r n b = record { rc = r; cursor = ending n b }

-- over the image's procedures and array words, the type words of the variables, the bounds, the image's form, the type word of the result, pc and rc
module _ (ps : List Procedure) (arrays types : List ℕ) (bounds : List ConstantLoop) (form result : ℕ) (pc rc : Bool) where
  unfoldable pub walked : ℕ → Fault → Parse Statement → Walked
  walked at best (got s n) =
      walk (rc_after types arrays pc rc s) n
      (least best (statement_label_faults form ps arrays types result bounds pc rc at s))
  walked at best (refused n p) = walk rc 0 best

  unfoldable pub walked_block : Fault → Parse Block → Walked
  walked_block best (got b n) =
      walk (rc_after_block types arrays pc rc b) n (least best (block_label_faults form ps arrays types result bounds pc rc b))
  walked_block best (refused n p) = walk rc 0 best
