-- The trace as it stands in the lent bytes: the number of bytes used, and the slice whole.
-- Assumes nothing.
use Rattle.std.specs.Prelude.{ℕ, ◌+◌, Bool, List, ltb, length}
use Rattle.std.proofs.lemmas.List.Edits.{sets}
use Rattle.definitions.specs.Bytes.{word4}
use Rattle.definitions.specs.Running.{Trace}

pub data Log : Type 0 where
  log : ℕ → List ℕ → Log

-- "22 means fewer than two trace words are free for an entry": eight bytes
abbrev pub no_room : Log → Bool
no_room (log used slice) = ltb (length slice) (used + 8)

-- an entry: two words, four bytes each
abbrev pub entered : ℕ → ℕ → Log → Log
entered w v (log used slice) = log (used + 8) (sets (sets slice used (word4 w)) (used + 4) (word4 v))

abbrev pub byte_trace : Trace Log
byte_trace = record { full = no_room; add = entered }
