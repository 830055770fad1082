-- Words and bytes: "byte slices, four bytes a word, most significant first".
use Rattle.std.specs.Prelude.{List, [], ◌∷◌, ◌++◌, ℕ, ◌+◌, ◌*◌, ◌/◌, ◌%◌, ◌^◌, ◌<◌, length, get_or, drop}

-- Every element is a byte: what the host lends. Past the end of a list stands 0, which is one.
abbrev pub Bytes : List ℕ → Type 0
Bytes bytes = (i : ℕ) → get_or bytes i 0 < 256

-- the word of four bytes
abbrev pub joined : ℕ → ℕ → ℕ → ℕ → ℕ
joined a b c d = ((a * 256 + b) * 256 + c) * 256 + d

-- the word at an index, counted in words
abbrev pub word_at : List ℕ → ℕ → ℕ
word_at bytes i =
    joined (get_or bytes (4 * i) 0) (get_or bytes (4 * i + 1) 0) (get_or bytes (4 * i + 2) 0) (get_or bytes (4 * i + 3) 0)

-- "Bytes left over after the last whole word are ignored"
unfoldable pub words_of : List ℕ → List ℕ
words_of [] = []
words_of (a ∷ []) = []
words_of (a ∷ b ∷ []) = []
words_of (a ∷ b ∷ c ∷ []) = []
words_of (a ∷ b ∷ c ∷ d ∷ rest) = joined a b c d ∷ words_of rest

-- the four bytes of a word
abbrev pub word4 : ℕ → List ℕ
word4 w = w / 2 ^ 24 ∷ w / 2 ^ 16 % 256 ∷ w / 2 ^ 8 % 256 ∷ w % 256 ∷ []

unfoldable pub bytes_of : List ℕ → List ℕ
bytes_of [] = []
bytes_of (w ∷ ws) = word4 w ++ bytes_of ws

-- what a lent byte slice holds once its first words are the given ones: the bytes behind them stay
unfoldable pub lent : List ℕ → List ℕ → List ℕ
unfolding bytes_of
lent bytes words = bytes_of words ++ drop (4 * length words) bytes
