-- The table that reading an image leaves for the passes after: of each array its word and where its cells begin, of each
-- procedure its place, the place of its body and the number of its parameters. Assumes nothing.
use Rattle.std.specs.Prelude.{ℕ, ◌+◌, ◌-◌, true, List, [], ◌∷◌, ◌++◌, map, ◌≡◌, length, get_or, take, drop, replicate}
use Rattle.definitions.specs.Image.{array_length, Procedure}
use Rattle.definitions.specs.Reading.{read_image}
use Rattle.laws.specs.Parses.{ok}
use Rattle.laws.specs.ImageIn.{image_in}

-- a list with zeros behind it
unfoldable pub padded : ℕ → List ℕ → List ℕ
padded n xs = xs ++ replicate (n - length xs) 0

-- where the cells of each array begin, where those before have the given number
unfoldable pub bases_from : ℕ → List ℕ → List ℕ
bases_from cells [] = []
bases_from cells (w ∷ ws) = cells ∷ bases_from (cells + array_length w) ws

-- behind a procedure's word, its result's type word and its variables' type words
abbrev pub body_place : Procedure → ℕ
body_place p = p.place + 1 + 1 + length p.types

-- of each procedure
abbrev pub places : List Procedure → List ℕ
places ps = map (λ (p : Procedure). p.place) ps

abbrev pub body_places : List Procedure → List ℕ
body_places ps = map body_place ps

abbrev pub arities : List Procedure → List ℕ
arities ps = map (λ (p : Procedure). p.parameters) ps

-- the table of array words and procedures: 16 words and 16 begins of arrays, the number of arrays, and of 32 procedures
-- the places, the bodies' places and the numbers of parameters
unfoldable pub table_of : List ℕ → List Procedure → List ℕ
table_of ws ps =
    padded 16 ws ++ (padded 16 (bases_from 0 ws) ++ (length ws
    ∷ (padded 32 (places ps) ++ (padded 32 (body_places ps) ++ padded 32 (arities ps)))))

-- what stands in a table
abbrev pub array_count_in : List ℕ → ℕ
array_count_in table = get_or table 32 0

abbrev pub arrays_in : List ℕ → List ℕ
arrays_in table = take (array_count_in table) table

abbrev pub base_in : List ℕ → ℕ → ℕ
base_in table a = get_or table (16 + a) 0

abbrev pub place_in : List ℕ → ℕ → ℕ
place_in table f = get_or table (33 + f) 0

abbrev pub body_in : List ℕ → ℕ → ℕ
body_in table f = get_or table (65 + f) 0

abbrev pub params_in : List ℕ → List ℕ
params_in table = drop 97 table

-- the table of an image that was read
pub record Known (image table : List ℕ) : Type 0 where
  pub read : ok (read_image true image) ≡ true
  pub filled : table ≡ table_of (image_in image).arrays (image_in image).procedures
