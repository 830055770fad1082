-- Which cells the arrays of an image have. Assumes nothing.
use Rattle.std.specs.Prelude.{◌≡◌, Bool, ◌&&◌, List, Option, Some, None, ℕ, ◌+◌, ◌≤◌, ◌<◌, ltb, length, get_or}
use Rattle.std.proofs.Common.{sym, ap, ◌∙◌}
use Rattle.definitions.specs.Choice.{pick}
use Rattle.definitions.specs.Image.{array_length, base_of, cell_count}
use Rattle.laws.specs.ImageIn.{image_in}
use Rattle.tables.specs.Table.{array_count_in, arrays_in, base_in, Known}
use Rattle.tables.specs.Looking.{known_arrays, known_count, known_base, few_cells}

-- `has_cell` of the definitions, on array words
abbrev pub has_cell_in : List ℕ → ℕ → ℕ → Bool
has_cell_in arrays a i = ltb a (length arrays) && ltb i (array_length (get_or arrays a 0))

-- where cell i of array a stands among all cells, by the table
unfoldable pub slot_in : List ℕ → ℕ → ℕ → Option ℕ
slot_in table a i = pick (ltb a (array_count_in table) && ltb i (array_length (get_or (arrays_in table) a 0))) (Some (base_in table a + i)) None

-- the arrays of an accepted image, and a machine with as many cells as they have
pub record Fits (table : List ℕ) (count : ℕ) : Type 0 where
  pub listed : length (arrays_in table) ≡ array_count_in table
  pub bases : (a : ℕ) → a < length (arrays_in table) → base_in table a ≡ base_of (arrays_in table) a
  pub most : cell_count (arrays_in table) ≤ 1024
  pub all : count ≡ cell_count (arrays_in table)

pub known_fits : (image table : List ℕ) (count : ℕ) → Known image table → count ≡ cell_count (image_in image).arrays → Fits table count
known_fits image table count k e =
    let a = known_arrays image table k in
    let n = known_count image table k in
    record {
      listed = ap length a ∙ sym n;
      bases = λ b h. known_base image table k b (rw (← a) h) ∙ ap (λ (ws : List ℕ). base_of ws b) (sym a);
      most = rw a (few_cells image table k);
      all = e ∙ ap cell_count (sym a);
    }
