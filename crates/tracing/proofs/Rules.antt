-- What each way out of `note` gives, and that each entry has a kind it takes. Assumes nothing.
use mathlib.Core.Path.{◌≡◌}
use mathlib.Core.List.{List}
use Prim.Native.Nat.{ℕ, ◌+◌, ◌-◌, ◌≤◌, ◌<◌}
use native.Mathlib.Omega.{arith}
use borrow.Author.Tests.{lt-ltb, le-ltb}
use lib.ListN.{length}
use lib.Seq.{sets}
use Rattle.definitions.specs.Bytes.{word4}
use Rattle.definitions.specs.Encoding.{word_with}
use Rattle.definitions.specs.Running.{Evaluated, value, stop, emit}
use Rattle.tracing.specs.declared.Entry.{Entry}
use Rattle.tracing.specs.declared.Entry.TheVariants.{Branch, LoopFrom, LoopTo, Index, Dividend, Divisor, Called, Returned, ShiftCount}
use Rattle.tracing.specs.Log.{Log, log, byte_trace}
use Rattle.tracing.specs.Answers.{entry_number}

-- a kind fits a word beside a place
pub entry_small : (e : Entry) → entry_number e < 15
entry_small Branch = omega arith
entry_small LoopFrom = omega arith
entry_small LoopTo = omega arith
entry_small Index = omega arith
entry_small Dividend = omega arith
entry_small Divisor = omega arith
entry_small Called = omega arith
entry_small Returned = omega arith
entry_small ShiftCount = omega arith

module _ (slice : List ℕ) (used kind place v : ℕ) where
  note_full : length slice < used + 8 → ◌≡◌ {A = Evaluated Log ℕ} (stop 22 place (log used slice)) (emit byte_trace kind place v (log used slice))
  unfolding emit
  note_full h = rw (lt-ltb (length slice) (used + 8) h)

  pub note_short : length slice < 8 → ◌≡◌ {A = Evaluated Log ℕ} (stop 22 place (log used slice)) (emit byte_trace kind place v (log used slice))
  note_short h = note_full (omega arith)

  pub note_spent : 8 ≤ length slice → length slice - 8 < used
      → ◌≡◌ {A = Evaluated Log ℕ} (stop 22 place (log used slice)) (emit byte_trace kind place v (log used slice))
  note_spent f h = note_full (omega arith)

  pub note_kept : (mid last : List ℕ) (n head : ℕ) → used ≤ length slice - 8 → 8 ≤ length slice → n ≡ kind → head ≡ word_with n place
      → mid ≡ sets slice used (word4 head) → last ≡ sets mid (used + 4) (word4 v)
      → value v (log (used + 8) last) ≡ emit byte_trace kind place v (log used slice)
  unfolding emit
  note_kept mid last n head h k i w e d = rw (d, e, w, i, le-ltb (length slice) (used + 8) (omega arith))
