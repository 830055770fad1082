-- Document 02, wish 7: how long a trace a call needs, learnt from a preview. Assumes nothing.
use Rattle.std.specs.Prelude.{◌≡◌, refl, Bool, true, false, List, ℕ, ◌≤◌, leb, length}
use Rattle.std.proofs.Common.{sym, arith, leb-true, leb-false}
use Rattle.definitions.specs.Bytes.{words_of}
use Rattle.definitions.specs.declared.Answer.TheVariants.{Stopped}
use Rattle.definitions.specs.Requests.{Called}
use Rattle.definitions.specs.Host.{call_bytes, preview_bytes}
use Rattle.statements.specs.Statements.{recorded_count, recorded_in, SameOrFilled, same_answer, filled_trace}
use Rattle.laws.specs.Previews.{previewed_answer, previewed_trace}
use Rattle.results.proofs.StoppedExactly.{two_traces}

-- two calls that differ only in the trace lent have the same answer and record the same words
abbrev Same : Called → Called → Type 0
Same x y = (x.0 ≡ y.0) × (recorded_in x ≡ recorded_in y)

module _ (image cells : List ℕ) (f : ℕ) (arguments : List ℕ) (budget : ℕ) (trace trace' : List ℕ) where
  -- the first is not stopped with 22, and the second has room for the words that it recorded
  same_with_room : ((p z n : ℕ) → (call_bytes image cells f arguments budget trace).0 ≡ Stopped 22 p z n → ⊥)
      → recorded_count (call_bytes image cells f arguments budget trace).0 ≤ length (words_of trace')
      → Same (call_bytes image cells f arguments budget trace') (call_bytes image cells f arguments budget trace)
  same_with_room unfilled room = by_length (leb (length (words_of trace)) (length (words_of trace'))) refl
    where
      longer : SameOrFilled (length (words_of trace)) (call_bytes image cells f arguments budget trace) (call_bytes image cells f arguments budget trace')
          → Same (call_bytes image cells f arguments budget trace') (call_bytes image cells f arguments budget trace)
      longer (same_answer a c r) = (sym a, sym r)
      longer (filled_trace p z n e h m t) = absurd (unfilled p z n e)

      shorter : SameOrFilled (length (words_of trace')) (call_bytes image cells f arguments budget trace') (call_bytes image cells f arguments budget trace)
          → Same (call_bytes image cells f arguments budget trace') (call_bytes image cells f arguments budget trace)
      shorter (same_answer a c r) = (a, r)
      shorter (filled_trace p z n e h m t) = absurd (omega arith)

      by_length : (b : Bool) → leb (length (words_of trace)) (length (words_of trace')) ≡ b
          → Same (call_bytes image cells f arguments budget trace') (call_bytes image cells f arguments budget trace)
      by_length true e = longer (two_traces image cells f arguments budget trace trace' (leb-true (length (words_of trace)) (length (words_of trace')) e))
      by_length false e = shorter (two_traces image cells f arguments budget trace' trace (omega (arith, leb-false (length (words_of trace)) (length (words_of trace')) e)))

  pub trace_enough : ((p z n : ℕ) → (preview_bytes image cells f arguments budget trace).0 ≡ Stopped 22 p z n → ⊥)
      → recorded_count (preview_bytes image cells f arguments budget trace).0 ≤ length (words_of trace')
      → ((call_bytes image cells f arguments budget trace').0 ≡ (preview_bytes image cells f arguments budget trace).0)
      × (recorded_in (call_bytes image cells f arguments budget trace') ≡ recorded_in (preview_bytes image cells f arguments budget trace))
  trace_enough = rw (previewed_answer image cells f arguments budget trace, previewed_trace image cells f arguments budget trace) same_with_room
