-- How the routine is called, and what it records.
use Rattle.std.specs.Prelude.{ℕ, zero, suc, ◌+◌, ◌*◌, List, [], ◌∷◌, ◌++◌, ◌≡◌}
use Rattle.definitions.specs.declared.Answer.TheVariants.{Done}
use Rattle.definitions.specs.Bytes.{bytes_of}
use Rattle.statements.specs.Statements.{Machine, Request, poke, turn}
use Rattle.padding.specs.Routine.{image}

-- "Called as compiled, with the array, procedure, budget and trace length that the crate names"
abbrev pub array : ℕ
array = 0

abbrev pub procedure : ℕ
procedure = 0

abbrev pub budget : ℕ
budget = 71

abbrev pub trace_length : ℕ
trace_length = 40

-- an entry: "kind × 2^28 + place, then value"
abbrev pub entry : ℕ → ℕ → ℕ → List ℕ
entry kind place value = (kind * 0x10000000 + place) ∷ value ∷ []

-- "4 index": so many from an index on, all at one place
unfoldable pub indices : ℕ → ℕ → ℕ → List ℕ
indices place i zero = []
indices place i (suc left) = entry 4 place i ++ indices place (i + 1) left

-- The words that it records, at the places of the compiled image: the index of the last cell; "2 and 3 loop from and to"; the
-- index of each cell; "8 return (value 0)".
unfoldable pub trace : List ℕ
trace = entry 4 11 15 ++ (entry 2 33 0 ++ (entry 3 33 16 ++ (indices 47 0 16 ++ entry 8 58 0)))

-- the pokes of cells into the routine's array, the first at an index
unfoldable pub pokes : ℕ → List ℕ → List Request
pokes i [] = []
pokes i (c ∷ cs) = poke array i c ∷ pokes (i + 1) cs

-- Requests that are done, each on the machine that the one before left, and the machine that the last one leaves.
pub data DoneInTurn : Machine → List Request → Machine → Type 0 where
  no_more : {m : Machine} → DoneInTurn m [] m
  one_more : {m n : Machine} {r : Request} {rs : List Request} → (turn m r).answer ≡ Done 0 0 0 → DoneInTurn (turn m r).after rs n → DoneInTurn m (r ∷ rs) n

-- a machine on which the routine is in force, with a block in its array
abbrev pub holding : List ℕ → Machine
holding block = record { image = image; cells = bytes_of block }
