-- Words in lent bytes: what a request reads where the one before it wrote.
-- Assumes nothing.
use Rattle.std.specs.Prelude.{◌≡◌, refl, List, [], ◌∷◌, ◌++◌, ℕ, ◌*◌, ◌/◌, ◌%◌, ◌^◌, ◌<◌, length, take, drop}
use Rattle.std.proofs.Common.{ap, ◌∙◌, append-nil, arith, length-append, length-drop}
use Rattle.definitions.specs.Bytes.{joined, words_of, bytes_of, lent}

pub length_words_of : (b : List ℕ) → length (words_of b) ≡ length b / 4
unfolding words_of
length_words_of [] = refl
length_words_of (x ∷ []) = refl
length_words_of (x ∷ y ∷ []) = refl
length_words_of (x ∷ y ∷ z ∷ []) = refl
length_words_of (x ∷ y ∷ z ∷ u ∷ b) = rw (length_words_of b) (omega arith)

length_bytes_of : (ws : List ℕ) → length (bytes_of ws) ≡ 4 * length ws
unfolding bytes_of
length_bytes_of [] = refl
length_bytes_of (w ∷ ws) = rw (length_bytes_of ws) (omega arith)

joined_word4 : (w : ℕ) → joined (w / 2 ^ 24) (w / 2 ^ 16 % 256) (w / 2 ^ 8 % 256) (w % 256) ≡ w
joined_word4 w = omega arith

-- written words come first
words_of_bytes_of : (ws rest : List ℕ) → words_of (bytes_of ws ++ rest) ≡ ws ++ words_of rest
unfolding words_of bytes_of
words_of_bytes_of [] rest = refl
words_of_bytes_of (w ∷ ws) rest = rw (joined_word4 w, words_of_bytes_of ws rest)

words_of_short : (b : List ℕ) → length b < 4 → words_of b ≡ []
unfolding words_of
words_of_short [] h = refl
words_of_short (x ∷ []) h = refl
words_of_short (x ∷ y ∷ []) h = refl
words_of_short (x ∷ y ∷ z ∷ []) h = refl
words_of_short (x ∷ y ∷ z ∷ u ∷ b) h = absurd (omega arith)

-- a slice of which all words were written holds just these
pub words_of_lent : (b ws : List ℕ) → length ws ≡ length (words_of b) → words_of (lent b ws) ≡ ws
unfolding lent
words_of_lent b ws e =
    let k : length ws ≡ length b / 4 = e ∙ length_words_of b in
    let s : length (drop (4 * length ws) b) < 4 = rw (length-drop (4 * length ws) b) (omega arith) in
    words_of_bytes_of ws (drop (4 * length ws) b) ∙ ap (λ (r : List ℕ). ws ++ r) (words_of_short (drop (4 * length ws) b) s) ∙ append-nil ws

pub length_lent : (b ws : List ℕ) → length ws ≡ length (words_of b) → length (lent b ws) ≡ length b
unfolding lent
length_lent b ws e =
    let k : length ws ≡ length b / 4 = e ∙ length_words_of b in
    rw (length-append (bytes_of ws) (drop (4 * length ws) b), length_bytes_of ws, length-drop (4 * length ws) b) (omega arith)

take_front : (xs ys : List ℕ) → take (length xs) (xs ++ ys) ≡ xs
take_front [] ys = refl
take_front (x ∷ xs) ys = ap (λ (r : List ℕ). x ∷ r) (take_front xs ys)

-- the words written are the first
pub take_lent : (b ws : List ℕ) → take (length ws) (words_of (lent b ws)) ≡ ws
unfolding lent
take_lent b ws = rw (words_of_bytes_of ws (drop (4 * length ws) b)) (take_front ws (words_of (drop (4 * length ws) b)))
