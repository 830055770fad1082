-- How the answer of the code's evaluation is read as the definition's result. Assumes nothing.
use Rattle.std.specs.Prelude.{◌≡◌, ℕ, Result, Ok, Err}
use Rattle.definitions.specs.Running.{Evaluated, value, stop}
use Rattle.reasons.specs.Numbers.{reason_number}
use Rattle.tracing.specs.declared.Entry.{Entry}
use Rattle.tracing.specs.declared.Entry.TheVariants.{Branch, LoopFrom, LoopTo, Index, Dividend, Divisor, Called, Returned, ShiftCount}
use Rattle.tracing.specs.declared.Stop.{Stop}
use Rattle.tracing.specs.declared.Trace.{Trace}
use Rattle.tracing.specs.Log.{Log, log}

-- the kind that an entry's first word holds
abbrev pub entry_number : Entry → ℕ
entry_number Branch = 1
entry_number LoopFrom = 2
entry_number LoopTo = 3
entry_number Index = 4
entry_number Dividend = 5
entry_number Divisor = 6
entry_number Called = 7
entry_number Returned = 8
entry_number ShiftCount = 9

-- the trace as it stands in the lent bytes
abbrev pub logged : Trace → Log
logged trace = log trace.used trace.bytes.now

-- the bytes are those of the same slice
abbrev pub SameBytes : Trace → Trace → Type 0
SameBytes old new = new.bytes.ghost_name ≡ old.bytes.ghost_name

-- an answer, with the trace that was left: the value of what was evaluated, or the stop
abbrev pub evaluation : {A : Type 0} → Result A Stop → Log → Evaluated Log A
evaluation (Ok v) t = value v t
evaluation (Err s) t = stop (reason_number s.reason) s.place t
