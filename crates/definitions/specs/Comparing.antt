-- Document 02, wish 13: a board probe's recording, held against the machine's trace.
use Rattle.std.specs.Prelude.{ℕ, ◌+◌, ◌*◌, ◌^◌, Bool, false, ◌&&◌, ◌||◌, List, [], ◌∷◌, eqb}
use Rattle.definitions.specs.Choice.{pick}
use Rattle.definitions.specs.Image.{kind_of}
use Rattle.definitions.specs.declared.Compared.{Compared}
use Rattle.definitions.specs.declared.Compared.TheVariants.{Agree, Part}

-- an entry as a probe has it: its kind and "values and no places"; or "an entry equal to none"
pub data Entry : Type 0 where
  observed : ℕ → ℕ → Entry
  unmatched : Entry

-- a probe "sees only branches, indices and calls": "kinds 1, 4 and 7"
abbrev pub observable : ℕ → Bool
observable kind = eqb kind 1 || (eqb kind 4 || eqb kind 7)

-- "the trace's entries of kinds 1, 4 and 7, places removed". "Trace entries are two words, kind × 2^28 + place, then
-- value": a lone last word is none.
unfoldable pub trace_entries : List ℕ → List Entry
trace_entries [] = []
trace_entries (w ∷ []) = []
trace_entries (w ∷ v ∷ rest) =
    pick (observable (kind_of w)) (observed (kind_of w) v ∷ trace_entries rest) (trace_entries rest)

-- "A probe entry is two words, kind × 2^28, then value. A lone last word, or a pair begun otherwise, is an entry equal
-- to none."
unfoldable pub probe_entries : List ℕ → List Entry
probe_entries [] = []
probe_entries (w ∷ []) = unmatched ∷ []
probe_entries (w ∷ v ∷ rest) =
    pick (observable (kind_of w) && eqb w (kind_of w * 2 ^ 28)) (observed (kind_of w) v) unmatched ∷ probe_entries rest

-- whether two entries are equal
unfoldable pub same_entry : Entry → Entry → Bool
same_entry (observed k v) (observed j w) = eqb k j && eqb v w
same_entry (observed k v) unmatched = false
same_entry unmatched e = false

-- "they agree exactly when the trace's entries .. are the probe's entries in order. Otherwise answer the number of
-- entries before they part. Where one is longer, they part at the end of the shorter." After n entries that are equal;
-- where they agree the answer has the number of all.
unfoldable pub compared_after : ℕ → List Entry → List Entry → Compared
compared_after n [] [] = Agree n
compared_after n [] (p ∷ ps) = Part n
compared_after n (t ∷ ts) [] = Part n
compared_after n (t ∷ ts) (p ∷ ps) = pick (same_entry t p) (compared_after (n + 1) ts ps) (Part n)

-- the words of a trace, and the words of a recording
unfoldable pub compared : List ℕ → List ℕ → Compared
compared trace probe = compared_after 0 (trace_entries trace) (probe_entries probe)
