-- Document 01, "From the machine's state": what a call on words answers, by the budget and the room for trace words that are lent, with its place. The
-- bound on places rests on it, and when a stop falls. Assumes nothing.
use Rattle.std.specs.Prelude.{ℕ, ◌+◌, ◌%◌, ◌≤◌, ◌<◌, List, [], ◌≡◌, length}
use Rattle.definitions.specs.declared.Answer.TheVariants.{Done, Stopped, Refused}
use Rattle.definitions.specs.Requests.{Called}

-- "21 budget spent, 22 trace full, 23 index beyond the array, 24 divisor 0"; "22 means fewer than two trace words are free for an entry." By number,
-- steps and number of trace words recorded.
pub data Stop (budget room : ℕ) : ℕ → ℕ → ℕ → Type 0 where
  budget_spent_lem : (z n : ℕ) → z ≡ budget → Stop budget room 21 z n
  trace_full_lem : (z n : ℕ) → room < n + 2 → Stop budget room 22 z n
  beyond_array : (z n : ℕ) → Stop budget room 23 z n
  divisor_0 : (z n : ℕ) → Stop budget room 24 z n

-- "Trace entries are two words": at most as many words are recorded as are lent
pub record Recorded (room : ℕ) (trace : List ℕ) : Type 0 where
  pub fits : length trace ≤ room
  pub even : length trace % 2 ≡ 0

-- A call's answer, the cells afterwards and the trace words recorded, of which the answer has the number. Steps are "never beyond the 32-bit budget".
-- "Stops, at the word being run"; "cells are as before the call". A refusal names a word of the image, its end or 0, and records no trace word.
pub data Calls (words : ℕ) (cells : List ℕ) (budget room : ℕ) : Called → Type 0 where
  ends : (v z : ℕ) (after trace : List ℕ) → z ≤ budget → Recorded room trace → length after ≡ length cells
      → Calls words cells budget room (Done v z (length trace), after, trace)
  stops : (n p z : ℕ) (trace : List ℕ) → Stop budget room n z (length trace) → p < words → z ≤ budget → Recorded room trace
      → Calls words cells budget room (Stopped n p z (length trace), cells, trace)
  call_refuses : (n p : ℕ) → p ≤ words → Calls words cells budget room (Refused n p, cells, [])
