-- Where a walk stands, as one value. Assumes nothing.
use Rattle.std.specs.Prelude.{ℕ}
use Rattle.definitions.specs.declared.Fault.{Fault}
use Rattle.labels.specs.declared.Cursor.{Cursor}

abbrev pub ending : ℕ → Fault → Cursor
ending n b = record { at = n; best = b }
