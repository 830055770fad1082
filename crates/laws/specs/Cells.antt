-- Where a cell stands: an index within an array names one of the image's cells. Assumes nothing.
use Rattle.std.specs.Prelude.{◌≡◌, ◌&&◌, true, List, [], ◌∷◌, ℕ, zero, suc, ◌+◌, ◌<◌, ltb, length, get_or}
use Rattle.std.proofs.Common.{arith, ltb-true}
use Rattle.definitions.specs.Image.{array_length, cell_count, base_of}
use Rattle.laws.specs.Tests.{and_right}

pub cell_among : (arrays : List ℕ) (a i : ℕ) → i < array_length (get_or arrays a 0) → base_of arrays a + i < cell_count arrays
unfolding base_of cell_count
cell_among [] a i h = absurd (omega arith)
cell_among (w ∷ ws) zero i h = omega arith
cell_among (w ∷ ws) (suc a) i h = let s = cell_among ws a i h in omega arith

-- a cell that is there is one of the image's: `has_cell` of the definitions, on array words
pub has_within : (arrays : List ℕ) (a i : ℕ) → (ltb a (length arrays) && ltb i (array_length (get_or arrays a 0))) ≡ true → base_of arrays a + i < cell_count arrays
has_within arrays a i e =
    cell_among arrays a i (ltb-true i (array_length (get_or arrays a 0)) (and_right (ltb a (length arrays)) (ltb i (array_length (get_or arrays a 0))) e))
