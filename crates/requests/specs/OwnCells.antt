-- What each request on an accepted image gives, on the image's own cells. Assumes nothing.
use Rattle.std.specs.Prelude.{List, ℕ, ◌+◌, get_or, set, replicate}
use Rattle.definitions.specs.Choice.{pick}
use Rattle.definitions.specs.Image.{base_of}
use Rattle.definitions.specs.Requests.{Served, carried_out}
use Rattle.definitions.specs.declared.Answer.TheVariants.{Refused}
use Rattle.requests.specs.Cells.{has_cell_in}

-- What the definitions' requests do once the image is accepted: on the array words, where the cells are the image's own.
unfoldable pub clear_on : ℕ → Served
clear_on count = (carried_out 0, replicate count 0)

unfoldable pub poke_on : List ℕ → List ℕ → ℕ → ℕ → ℕ → Served
poke_on arrays cells a i v = pick (has_cell_in arrays a i) (carried_out 0, set cells (base_of arrays a + i) v) (Refused 17 0, cells)

unfoldable pub peek_on : List ℕ → List ℕ → ℕ → ℕ → Served
peek_on arrays cells a i = pick (has_cell_in arrays a i) (carried_out (get_or cells (base_of arrays a + i) 0), cells) (Refused 17 0, cells)
