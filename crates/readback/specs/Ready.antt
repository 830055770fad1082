-- Whether a request can work on a tree that was read, and on the compiled words: they are ready as the tree that is read from them.
-- Assumes nothing.
use Rattle.std.specs.Prelude.{ℕ, true, ◌++◌, ◌≡◌, leb, length}
use Rattle.std.proofs.Math.Dec.{eqb-suc-zero}
use Rattle.std.proofs.Common.{eq-eqb}
use Rattle.definitions.specs.Choice.{pick}
use Rattle.definitions.specs.Image.{Image, cell_count}
use Rattle.definitions.specs.Reading.{got}
use Rattle.definitions.specs.Checking.{fault_of, without_fault, admitted}
use Rattle.definitions.specs.Encoding.{procedures_words, image_words}
use Rattle.definitions.specs.Compiling.{compiled_image}
use Rattle.definitions.specs.Requests.{Ready, ready, unready, with_cells, ready_to_load, ready_to_serve}
use Rattle.readback.specs.Conclusion.{ReadBack}

-- a request for the tree, where enough cells are lent
unfoldable pub lent_enough : Image → ℕ → Ready
lent_enough image count = pick (leb (cell_count image.arrays) count) (ready image) (unready 17 0)

pub ready_tree : (image : Image) (n count : ℕ) → (fault_of image).number ≡ 0 → with_cells (without_fault (got image n)) count ≡ lent_enough image count
unfolding with_cells without_fault lent_enough
ready_tree image n count h = rw (eq-eqb (fault_of image).number 0 h)

-- The compiled words are ready as the tree that is read from them.
pub compiled_loads : (image : Image) (r : ReadBack image) (count : ℕ) → ready_to_load true (image_words (compiled_image image)) count ≡ lent_enough r.tree count
unfolding ready_to_load admitted
compiled_loads image r count = rw r.reading (ready_tree r.tree (length (image_words (compiled_image image))) count r.faultless)

pub compiled_ready : (image : Image) (r : ReadBack image) (count : ℕ) → ready_to_serve true (image_words (compiled_image image)) count ≡ lent_enough r.tree count
unfolding ready_to_serve image_words
compiled_ready image r count =
    rw (eqb-suc-zero (length ((compiled_image image).arrays ++ procedures_words (compiled_image image).procedures))) (compiled_loads image r count)
