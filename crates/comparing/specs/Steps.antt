-- What a step of the comparison comes to. Assumes nothing.
use Rattle.std.specs.Prelude.{ℕ, ◌+◌, ◌*◌, ◌≤◌, Bool, false, List, [], ◌∷◌, ◌≡◌, length, drop, Option, Some, None}
use Rattle.definitions.specs.declared.Compared.{Compared}
use Rattle.definitions.specs.declared.Compared.TheVariants.{Part}
use Rattle.definitions.specs.Comparing.{Entry, trace_entries, probe_entries, same_entry, compared_after}

-- whether the first of some entries is a given one
unfoldable pub begins_with : Entry → List Entry → Bool
begins_with e [] = false
begins_with e (p ∷ ps) = same_entry e p

-- what the comparison comes to, after the words of the trace before a place, and n entries of the recording that are equal
unfoldable pub rest : List ℕ → ℕ → List ℕ → ℕ → Compared
rest trace at probe n = compared_after n (trace_entries (drop at trace)) (probe_entries (drop (2 * n) probe))

-- a step goes on to the next two words of the trace, with so many entries that are equal, within the recording; or the two part
unfoldable pub Stepped : Option ℕ → List ℕ → ℕ → List ℕ → ℕ → Type 0
Stepped (Some m) trace at probe n = (rest trace at probe n ≡ rest trace (at + 2) probe m) × (2 * m ≤ length probe)
Stepped None trace at probe n = rest trace at probe n ≡ Part n
