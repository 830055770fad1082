-- The machine's cells as words, and what a turn gives. Assumes nothing.
use Rattle.std.specs.Prelude.{◌≡◌, List, ◌++◌, ℕ, ◌*◌, take, drop}
use Rattle.definitions.specs.Bytes.{bytes_of}
use Rattle.definitions.specs.declared.Answer.{Answer}
use Rattle.definitions.specs.declared.Answer.TheVariants.{Done, Stopped, Refused}
use Rattle.definitions.specs.Requests.{Served}
use Rattle.machine.specs.declared.machines.Machine.{Machine}
use Rattle.machine.specs.declared.machines.Turn.{Turn}

-- the cells that the machine holds
abbrev pub held : {N : ℕ} → Machine N → List ℕ
held m = take m.count m.cells

-- a request that is done keeps the number of cells, any other hands back the machine that came in
unfoldable pub Kept : {N : ℕ} → Answer → Machine N → Machine N → Type 0
Kept (Done v z n) m after = after.count ≡ m.count
Kept (Stopped k p z n) m after = after ≡ m
Kept (Refused k p) m after = after ≡ m

-- what a turn leaves of the lent bytes: the cells of a request that is done are written over their front
abbrev pub given_back : {N : ℕ} → Answer → Machine N → List ℕ → List ℕ
given_back (Done v z n) m cells = bytes_of (held m) ++ drop (4 * m.count) cells
given_back (Stopped k p z n) m cells = cells
given_back (Refused k p) m cells = cells

-- The turn gives what the definition gives, and the machine holds as many cells as before.
pub record Turned {N : ℕ} (m : Machine N) (r : Turn N) (s : Served) : Type 0 where
  pub gives : ◌≡◌ {A = Served} (r.answer, held r.machine) s
  pub kept : Kept r.answer m r.machine
