-- Rules for the lines of words. Assumes nothing.
use mathlib.Core.Path.{◌≡◌, refl, sym, ap, ◌∙◌}
use mathlib.Core.List.{List, [], ◌∷◌, ◌++◌, append_assoc, append-nil}
use Prim.Native.Nat.{ℕ, zero, suc, ◌+◌, ◌*◌, ◌≤◌, ◌<◌}
use native.Mathlib.Numerals.{add-one}
use native.Mathlib.Omega.{arith}
use lib.ListN.{length, get_or, take, drop, set}
use lib.Seq.{paste, take-paste, drop-paste, length-paste, drop-set-lt, drop-drop}
use Rattle.definitions.specs.Bytes.{word_at, words_of}
use Rattle.laws.specs.WordsOfBytes.{length_words_of, get_d_words_of}
use Rattle.printing.specs.Text.{word_line, listing}

length_line : (w : ℕ) → length (word_line w) ≡ 9
length_line w = refl

-- one word more is one line more
listing_more : (ws : List ℕ) (j : ℕ) → j < length ws → listing (take (suc j) ws) ≡ listing (take j ws) ++ word_line (get_or ws j 0)
unfolding listing
listing_more [] j h = absurd (omega arith)
listing_more (w ∷ ws) zero h = append-nil (word_line w)
listing_more (w ∷ ws) (suc j) h =
    rw (listing_more ws j (omega arith)) (sym (append_assoc (word_line w) (listing (take j ws)) (word_line (get_or ws j 0))))

-- after j lines: how long the text is, what stands in it, what stands behind
abbrev pub Lines : List ℕ → List ℕ → List ℕ → ℕ → Type 0
Lines before b text j = (length text ≡ length before) × (take (9 * j) text ≡ listing (take j (words_of b))) × (drop (9 * j) text ≡ drop (9 * j) before)

module _ (before b : List ℕ) (n : ℕ) (room : 4 * n ≤ length b) (long : 9 * n ≤ length before) where
  few : n ≤ length (words_of b)
  few = rw length_words_of (omega arith)

  below : (j : ℕ) → j < n → j < length (words_of b)
  below j h = let f = few in omega arith

  pub line_more : (text after : List ℕ) (j w : ℕ) → j < n → w ≡ word_at b j → after ≡ paste text (9 * j) (word_line w) 9
      → Lines before b text j → Lines before b after (j + 1)
  line_more text after j w h q e (l, t, d) =
      let m : 9 * (j + 1) ≡ 9 * j + 9 = omega arith in
      let k : j < length (words_of b) = below j h in
      let front : take (9 * j + 9) after ≡ listing (take (j + 1) (words_of b)) =
      ap (take (9 * j + 9)) e ∙ take-paste text (9 * j) (word_line w) 9 (omega arith) (omega arith)
      ∙ rw (add-one, listing_more (words_of b) j k, t, get_d_words_of b j (omega arith), ← q) in
      let behind : drop (9 * j + 9) after ≡ drop (9 * j + 9) before =
      ap (drop (9 * j + 9)) e ∙ drop-paste text (9 * j) (word_line w) 9 (omega arith) (omega arith)
      ∙ sym (drop-drop 9 (9 * j) text) ∙ ap (drop 9) d ∙ drop-drop 9 (9 * j) before in
      (ap length e ∙ length-paste text (9 * j) (word_line w) 9 (omega arith) (omega arith) ∙ l, rw m front, rw m behind)

-- behind what was written stands what stood there
pub behind_more : (text before : List ℕ) (j v : ℕ) → drop j text ≡ drop j before → drop (j + 1) (set text j v) ≡ drop (j + 1) before
behind_more text before j v e =
    drop-set-lt (j + 1) text j v (omega arith) ∙ sym (drop-drop 1 j text) ∙ ap (λ (x : List ℕ). drop 1 x) e ∙ drop-drop 1 j before
