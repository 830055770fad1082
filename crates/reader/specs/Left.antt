-- What reading leaves in the tables: what was read stands there, and after a refusal they are as they came. Assumes nothing.
use Rattle.std.specs.Prelude.{◌≡◌, List, [], ℕ, ◌≤◌, length, replicate}
use Rattle.definitions.specs.Image.{Procedure, Image}
use Rattle.definitions.specs.Reading.{Parse, got, refused, read_procedures}
use Rattle.tables.specs.Table.{table_of, arrays_in, params_in}
use Rattle.reader.specs.Ends.{BlockEnds}

-- the arrays stand in the table, no procedure yet
abbrev pub Begun : List ℕ → Type 0
Begun table = (length (arrays_in table) ≤ 16) × (table ≡ table_of (arrays_in table) [])

-- array words that were read
unfoldable pub ArraysLeft : Parse (List ℕ) → List ℕ → Type 0
ArraysLeft x table = (ws : List ℕ) (n : ℕ) → x ≡ got ws n → (length ws ≤ 16) × (table ≡ table_of ws [])

-- procedures that were read, behind the arrays of the table as it was
unfoldable pub ProceduresLeft : ℕ → ℕ → List ℕ → List ℕ → ℕ → List ℕ → List ℕ → Type 0
ProceduresLeft form count image start first table ends =
    (ps : List Procedure) (n : ℕ) → read_procedures count form (params_in start) 0 image first ≡ got ps n
    → (table ≡ table_of (arrays_in start) ps) × BlockEnds image (params_in table) ends

-- the tables of a tree that was read
pub record Tables (image : List ℕ) (tree : Image) (table ends : List ℕ) : Type 0 where
  pub filled : table ≡ table_of tree.arrays tree.procedures
  pub block_ends : BlockEnds image (params_in table) ends

unfoldable pub ImageLeft : Parse Image → List ℕ → List ℕ → List ℕ → Type 0
ImageLeft x image table ends = (tree : Image) (n : ℕ) → x ≡ got tree n → Tables image tree table ends

-- the tables after an image was read or refused
unfoldable pub TablesLeft : Parse Image → List ℕ → List ℕ → List ℕ → Type 0
TablesLeft (got tree n) image table ends = Tables image tree table ends
TablesLeft (refused n p) image table ends = (table ≡ replicate 129 0) × (ends ≡ replicate (length ends) 0)
