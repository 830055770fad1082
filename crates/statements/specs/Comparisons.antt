-- What wish 13 of document 02 speaks of: what a board probe sees of a trace, what the words of its recording are, and where the two part. There is no
-- proof here. Assumes nothing.
use Rattle.std.specs.Prelude.{ℕ, suc, ◌+◌, ◌*◌, ◌^◌, ◌≤◌, ◌<◌, List, [], ◌∷◌, ◌≡◌, length, take}
use Rattle.definitions.specs.Comparing.{Entry, observed, unmatched}

-- "sees only branches, indices and calls": "kinds 1, 4 and 7"
pub data Observable : ℕ → Type 0 where
  branch : Observable 1
  index : Observable 4
  call : Observable 7

-- "the trace's entries of kinds 1, 4 and 7, places removed". "Trace entries are two words, kind × 2^28 + place, then value." A lone last word is none.
pub data TraceShows : List ℕ → List Entry → Type 0 where
  no_words : TraceShows [] []
  lone_word : (w : ℕ) → TraceShows (w ∷ []) []
  shown : (w v kind place : ℕ) {rest : List ℕ} {es : List Entry} → w ≡ kind * 2 ^ 28 + place → place < 2 ^ 28 → Observable kind → TraceShows rest es
      → TraceShows (w ∷ v ∷ rest) (observed kind v ∷ es)
  not_shown : (w v kind place : ℕ) {rest : List ℕ} {es : List Entry} → w ≡ kind * 2 ^ 28 + place → place < 2 ^ 28 → (Observable kind → ⊥) → TraceShows rest es
      → TraceShows (w ∷ v ∷ rest) es

-- "A probe entry is two words, kind × 2^28, then value. A lone last word, or a pair begun otherwise, is an entry equal to none."
pub data ProbeRecords : List ℕ → List Entry → Type 0 where
  nothing : ProbeRecords [] []
  lone_last : (w : ℕ) → ProbeRecords (w ∷ []) (unmatched ∷ [])
  entry : (w v kind : ℕ) {rest : List ℕ} {es : List Entry} → w ≡ kind * 2 ^ 28 → Observable kind → ProbeRecords rest es
      → ProbeRecords (w ∷ v ∷ rest) (observed kind v ∷ es)
  begun_otherwise : (w v : ℕ) {rest : List ℕ} {es : List Entry} → ((kind : ℕ) → Observable kind → w ≡ kind * 2 ^ 28 → ⊥) → ProbeRecords rest es
      → ProbeRecords (w ∷ v ∷ rest) (unmatched ∷ es)

-- "the number of entries before they part. Where one is longer, they part at the end of the shorter": the first n of both are equal, and there is no
-- pair of equal ones after these.
pub record PartAfter (n : ℕ) (ts ps : List Entry) : Type 0 where
  pub in_trace : n ≤ length ts
  pub in_recording : n ≤ length ps
  pub equal : take n ts ≡ take n ps
  pub no_further : take (suc n) ts ≡ take (suc n) ps → ⊥
