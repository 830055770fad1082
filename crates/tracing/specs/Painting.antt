-- Recording into lent bytes is recording trace words and writing them over the front of the slice.
-- Assumes nothing.
use Rattle.std.specs.Prelude.{◌≡◌, refl, Bool, true, false, List, [], ◌∷◌, ◌++◌, ℕ, ◌+◌, ◌-◌, ◌*◌, ◌/◌, ◌≤◌, ◌<◌, ltb, length, drop}
use Rattle.std.proofs.Common.{sym, ap, ◌∙◌, append_assoc, arith, ltb-true, ltb-false, lt-ltb, le-ltb, length-append, length-drop, take_at, drop-drop}
use Rattle.std.proofs.lemmas.List.Edits.{sets, sets-eq}
use Rattle.std.proofs.Math.Seq.{drop-append-add}
use Rattle.definitions.specs.Bytes.{word4, bytes_of, lent}
use Rattle.definitions.specs.Image.{Procedure}
use Rattle.definitions.specs.Running.{trace_words, run_procedure}
use Rattle.tracing.specs.Log.{Log, log, byte_trace}
use Rattle.tracing.specs.Renaming.{map_ran, procedure_same}

-- trace words written over the front of the lent bytes
unfoldable pub paint : List ℕ → List ℕ → Log
paint base words = log (4 * length words) (lent base words)

length_bytes_of : (ws : List ℕ) → length (bytes_of ws) ≡ 4 * length ws
unfolding bytes_of
length_bytes_of [] = refl
length_bytes_of (w ∷ ws) = rw (length_bytes_of ws) (omega arith)

bytes_of_append : (xs ys : List ℕ) → bytes_of (xs ++ ys) ≡ bytes_of xs ++ bytes_of ys
unfolding bytes_of
bytes_of_append [] ys = refl
bytes_of_append (x ∷ xs) ys = rw (bytes_of_append xs ys)

-- two bounds that are met for the same numbers of words and bytes
same_bound : (a b c d : ℕ) → (a < b → c < d) → (b ≤ a → d ≤ c) → ltb a b ≡ ltb c d
same_bound a b c d f g = go (ltb a b) refl
  where
    go : (t : Bool) → ltb a b ≡ t → ltb a b ≡ ltb c d
    go true e = e ∙ sym (lt-ltb c d (f (ltb-true a b e)))
    go false e = e ∙ sym (le-ltb c d (g (ltb-false a b e)))

length_paint : (base words : List ℕ) → length (lent base words) ≡ 4 * length words + (length base - 4 * length words)
unfolding lent
length_paint base words = simp (length-append, length_bytes_of, length-drop)

paint_full : (base words : List ℕ) → byte_trace.full (paint base words) ≡ (trace_words (length base / 4)).full words
unfolding paint
paint_full base words =
    rw (length_paint base words)
    (same_bound (4 * length words + (length base - 4 * length words)) (4 * length words + 8) (length base / 4) (length words + 2)
    (λ h. omega arith) (λ h. omega arith))

-- bytes stored behind p go into what follows it
sets_append : (p q v : List ℕ) (n : ℕ) → length p ≡ n → length v ≤ length q → sets (p ++ q) n v ≡ p ++ v ++ drop (length v) q
sets_append p q v n e h =
    sets-eq v (p ++ q) n (simp (length-append, e) (omega arith)) ∙ rw (take_at p q n e, ← e, drop-append-add p q (length v))

bytes_of_one : (w : ℕ) → bytes_of (w ∷ []) ≡ word4 w
unfolding bytes_of
bytes_of_one w = refl

lent_more : (base words : List ℕ) (w : ℕ) → 4 * length words + 4 ≤ length base
    → sets (lent base words) (4 * length words) (word4 w) ≡ lent base (words ++ (w ∷ []))
unfolding lent
lent_more base words w h =
    let four : 4 * (length words + 1) ≡ 4 * length words + 4 = omega arith in
    sets_append (bytes_of words) (drop (4 * length words) base) (word4 w) (4 * length words) (length_bytes_of words) (simp length-drop (omega arith))
    ∙ rw (bytes_of_append, bytes_of_one, length-append, four, drop-drop 4 (4 * length words) base) (simp append_assoc)

paint_add : (base : List ℕ) (w v : ℕ) (words : List ℕ) → (trace_words (length base / 4)).full words ≡ false
    → byte_trace.add w v (paint base words) ≡ paint base ((trace_words (length base / 4)).add w v words)
unfolding paint
paint_add base w v words e =
    let h : length words + 2 ≤ length base / 4 = ltb-false (length base / 4) (length words + 2) e in
    let one : length (words ++ (w ∷ [])) ≡ length words + 1 = length-append words (w ∷ []) in
    let at : 4 * length words + 4 ≡ 4 * length (words ++ (w ∷ [])) = omega arith in
    let all : 4 * length words + 8 ≡ 4 * length (words ++ (w ∷ v ∷ [])) = simp length-append (omega arith) in
    ap (λ (n : ℕ). log n (sets (sets (lent base words) (4 * length words) (word4 w)) (4 * length words + 4) (word4 v))) all
    ∙ ap (λ (s : List ℕ). log (4 * length (words ++ (w ∷ v ∷ []))) (sets s (4 * length words + 4) (word4 v))) (lent_more base words w (omega arith))
    ∙ ap (λ (n : ℕ). log (4 * length (words ++ (w ∷ v ∷ []))) (sets (lent base (words ++ (w ∷ []))) n (word4 v))) at
    ∙ ap (log (4 * length (words ++ (w ∷ v ∷ [])))) (lent_more base (words ++ (w ∷ [])) v (omega arith) ∙ ap (lent base) (append_assoc words (w ∷ []) (v ∷ [])))

-- A run of a procedure that records into lent bytes is the run that records trace words, for which there is the slice's room.
pub run_painted : (base : List ℕ) (budget : ℕ) (arrays : List ℕ) (ps : List Procedure) (n f : ℕ) (ws : List ℕ) (z : ℕ) (words cs : List ℕ)
    → run_procedure byte_trace budget arrays ps n f ws z (paint base words) cs
    ≡ map_ran (paint base) (run_procedure (trace_words (length base / 4)) budget arrays ps n f ws z words cs)
run_painted base budget arrays ps n f ws z words cs =
    procedure_same (trace_words (length base / 4)) byte_trace (paint base) (paint_full base) (paint_add base) budget arrays ps n f ws z words cs
