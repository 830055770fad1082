-- Laws of words in slices of bytes: lengths, elements, and that reading undoes writing and writing undoes reading.
-- Assumes nothing.
use Rattle.std.specs.Prelude.{◌≡◌, refl, List, [], ◌∷◌, ◌++◌, ℕ, zero, suc, ◌+◌, ◌*◌, ◌/◌, ◌%◌, ◌^◌, ◌≤◌, ◌<◌, length, get_or, take, drop}
use Rattle.std.proofs.Common.{sym, ap, ◌∙◌, append_assoc, append-nil, le_of_eq, arith, length-append, length-drop, take-append-drop, take_all, drop_at, length-take-le}
use Rattle.definitions.specs.Bytes.{Bytes, joined, word_at, words_of, bytes_of, lent}

-- every element is a word; past the end of a list stands 0, which is one
abbrev pub Words : List ℕ → Type 0
Words ws = (i : ℕ) → get_or ws i 0 < 2 ^ 32

-- ---- bytes to words

pub length_words_of : (b : List ℕ) → length (words_of b) ≡ length b / 4
unfolding words_of
length_words_of [] = refl
length_words_of (x ∷ []) = refl
length_words_of (x ∷ y ∷ []) = refl
length_words_of (x ∷ y ∷ z ∷ []) = refl
length_words_of (x ∷ y ∷ z ∷ u ∷ b) = rw (length_words_of b) (omega arith)

word_at_suc : (x y z u : ℕ) (b : List ℕ) (i : ℕ) → word_at (x ∷ y ∷ z ∷ u ∷ b) (suc i) ≡ word_at b i
word_at_suc x y z u b i =
    let e0 : 4 * suc i ≡ suc (suc (suc (suc (4 * i)))) = omega arith in
    let e1 : 4 * suc i + 1 ≡ suc (suc (suc (suc (4 * i + 1)))) = omega arith in
    let e2 : 4 * suc i + 2 ≡ suc (suc (suc (suc (4 * i + 2)))) = omega arith in
    let e3 : 4 * suc i + 3 ≡ suc (suc (suc (suc (4 * i + 3)))) = omega arith in rw (e3, e2, e1, e0)

pub get_d_words_of : (b : List ℕ) (i : ℕ) → i < length b / 4 → get_or (words_of b) i 0 ≡ word_at b i
unfolding words_of
get_d_words_of [] i h = absurd (omega arith)
get_d_words_of (x ∷ []) i h = absurd (omega arith)
get_d_words_of (x ∷ y ∷ []) i h = absurd (omega arith)
get_d_words_of (x ∷ y ∷ z ∷ []) i h = absurd (omega arith)
get_d_words_of (x ∷ y ∷ z ∷ u ∷ b) zero h = refl
get_d_words_of (x ∷ y ∷ z ∷ u ∷ b) (suc i) h = rw (word_at_suc x y z u b i) (get_d_words_of b i (omega arith))

-- all the words there are
pub take_words_of : (b : List ℕ) → take (length b / 4) (words_of b) ≡ words_of b
take_words_of b = take_all (length b / 4) (words_of b) (le_of_eq (length_words_of b))

pub words_words_of : (b : List ℕ) → Bytes b → Words (words_of b)
unfolding words_of
words_words_of [] h i = omega arith
words_words_of (x ∷ []) h i = omega arith
words_words_of (x ∷ y ∷ []) h i = omega arith
words_words_of (x ∷ y ∷ z ∷ []) h i = omega arith
words_words_of (x ∷ y ∷ z ∷ u ∷ b) h zero = omega (arith, h 0, h 1, h 2, h 3)
words_words_of (x ∷ y ∷ z ∷ u ∷ b) h (suc i) = words_words_of b (λ k. h (suc (suc (suc (suc k))))) i

-- ---- words to bytes

pub length_bytes_of : (ws : List ℕ) → length (bytes_of ws) ≡ 4 * length ws
unfolding bytes_of
length_bytes_of [] = refl
length_bytes_of (w ∷ ws) = rw (length_bytes_of ws) (omega arith)

pub bytes_of_append : (xs ys : List ℕ) → bytes_of (xs ++ ys) ≡ bytes_of xs ++ bytes_of ys
unfolding bytes_of
bytes_of_append [] ys = refl
bytes_of_append (x ∷ xs) ys = rw (bytes_of_append xs ys)

-- ---- reading what was written

joined_word4 : (w : ℕ) → joined (w / 2 ^ 24) (w / 2 ^ 16 % 256) (w / 2 ^ 8 % 256) (w % 256) ≡ w
joined_word4 w = omega arith

-- written words come first
pub words_first : (ws rest : List ℕ) → words_of (bytes_of ws ++ rest) ≡ ws ++ words_of rest
unfolding words_of bytes_of
words_first [] rest = refl
words_first (w ∷ ws) rest = rw (joined_word4 w, words_first ws rest)

-- and alone they are all that is read
pub words_back : (ws : List ℕ) → words_of (bytes_of ws) ≡ ws
unfolding words_of
words_back ws = ap words_of (sym (append-nil (bytes_of ws))) ∙ words_first ws [] ∙ append-nil ws

words_of_short : (b : List ℕ) → length b < 4 → words_of b ≡ []
unfolding words_of
words_of_short [] h = refl
words_of_short (x ∷ []) h = refl
words_of_short (x ∷ y ∷ []) h = refl
words_of_short (x ∷ y ∷ z ∷ []) h = refl
words_of_short (x ∷ y ∷ z ∷ u ∷ b) h = absurd (omega arith)

pub words_of_bytes_of : (ws rest : List ℕ) → Words ws → length rest < 4 → words_of (bytes_of ws ++ rest) ≡ ws
words_of_bytes_of ws rest h l = words_first ws rest ∙ ap (λ (x : List ℕ). ws ++ x) (words_of_short rest l) ∙ append-nil ws

-- ---- lent slices

pub length_lent : (b ws : List ℕ) → 4 * length ws ≤ length b → length (lent b ws) ≡ length b
unfolding lent
length_lent b ws h = simp (length-append, length_bytes_of, length-drop) (omega arith)

pub words_of_lent : (b ws : List ℕ) → Words ws → length ws ≡ length b / 4 → words_of (lent b ws) ≡ ws
unfolding lent
words_of_lent b ws h l = words_of_bytes_of ws (drop (4 * length ws) b) h (simp length-drop (omega arith))

-- only the last of two writings shows
pub lent_lent : (b ws vs : List ℕ) → length vs ≡ length ws → lent (lent b ws) vs ≡ lent b vs
unfolding lent
lent_lent b ws vs e =
    rw (e, drop_at (bytes_of ws) (drop (4 * length ws) b) (4 * length ws) (length_bytes_of ws))

-- its own words change nothing
pub lent_words_of : (b : List ℕ) → Bytes b → lent b (words_of b) ≡ b
unfolding lent words_of bytes_of
lent_words_of [] h = refl
lent_words_of (x ∷ []) h = refl
lent_words_of (x ∷ y ∷ []) h = refl
lent_words_of (x ∷ y ∷ z ∷ []) h = refl
lent_words_of (x ∷ y ∷ z ∷ u ∷ b) h =
    let e : 4 * suc (length (words_of b)) ≡ suc (suc (suc (suc (4 * length (words_of b))))) = omega arith in
    let e0 : joined x y z u / 2 ^ 24 ≡ x = omega (arith, h 0, h 1, h 2, h 3) in
    let e1 : joined x y z u / 2 ^ 16 % 256 ≡ y = omega (arith, h 0, h 1, h 2, h 3) in
    let e2 : joined x y z u / 2 ^ 8 % 256 ≡ z = omega (arith, h 0, h 1, h 2, h 3) in
    let e3 : joined x y z u % 256 ≡ u = omega (arith, h 0, h 1, h 2, h 3) in
    rw (e, e0, e1, e2, e3, lent_words_of b (λ i. h (suc (suc (suc (suc i))))))

-- what `write_words` leaves is the lent slice
pub lent_take : (b ws : List ℕ) (n : ℕ) → n ≤ length ws → bytes_of (take n ws) ++ drop (4 * n) b ≡ lent b (take n ws)
unfolding lent
lent_take b ws n h = rw (length-take-le n ws h)

-- the bytes behind the first n words are the words behind them, and what is left over
words_behind : (b : List ℕ) (n : ℕ) → Bytes b → 4 * n ≤ length b
    → bytes_of (drop n (words_of b)) ++ drop (4 * length (words_of b)) b ≡ drop (4 * n) b
unfolding lent
words_behind b n h l =
    let few : n ≤ length (words_of b) = rw length_words_of (omega arith) in
    let front : length (bytes_of (take n (words_of b))) ≡ 4 * n = rw (length_bytes_of, length-take-le n (words_of b) few) in
    let split : bytes_of (take n (words_of b)) ++ (bytes_of (drop n (words_of b)) ++ drop (4 * length (words_of b)) b) ≡ b =
    sym (append_assoc (bytes_of (take n (words_of b))) (bytes_of (drop n (words_of b))) (drop (4 * length (words_of b)) b))
    ∙ ap (λ (x : List ℕ). x ++ drop (4 * length (words_of b)) b)
    (sym (bytes_of_append (take n (words_of b)) (drop n (words_of b))) ∙ ap bytes_of (take-append-drop n (words_of b)))
    ∙ lent_words_of b h in
    sym (drop_at (bytes_of (take n (words_of b))) (bytes_of (drop n (words_of b)) ++ drop (4 * length (words_of b)) b) (4 * n) front)
    ∙ ap (λ (x : List ℕ). drop (4 * n) x) split

-- new words at the front, with the words that were behind them, are the new words' bytes with the bytes that were behind them
pub lent_front : (b ws : List ℕ) (n : ℕ) → Bytes b → length ws ≡ n → 4 * n ≤ length b
    → lent b (ws ++ drop n (words_of b)) ≡ bytes_of ws ++ drop (4 * n) b
unfolding lent
lent_front b ws n h e l =
    let few : n ≤ length (words_of b) = rw length_words_of (omega arith) in
    let long : length (ws ++ drop n (words_of b)) ≡ length (words_of b) = simp (length-append, length-drop) (omega arith) in
    rw (long, bytes_of_append)
    (append_assoc (bytes_of ws) (bytes_of (drop n (words_of b))) (drop (4 * length (words_of b)) b) ∙ ap (λ (x : List ℕ). bytes_of ws ++ x) (words_behind b n h l))
