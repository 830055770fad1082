-- Document 01, "Example image, as the printing program lists it": the text for an image on standard input. Assumes nothing.
use Rattle.std.specs.Prelude.{List, [], ◌∷◌, ◌++◌, ℕ, zero, suc, ◌+◌, ◌/◌, ◌%◌, ◌^◌, ltb, take, replicate}
use Rattle.definitions.specs.Choice.{pick}
use Rattle.definitions.specs.Bytes.{words_of}
use Rattle.definitions.specs.Host.{compile_bytes}
use Rattle.definitions.specs.declared.Compiled.{Compiled}
use Rattle.definitions.specs.declared.Compiled.TheVariants.{Written, Refused}

-- the character of a "capital hexadecimal digit": 0 to 9, then A to F
abbrev pub hex_digit : ℕ → ℕ
hex_digit d = pick (ltb d 10) (48 + d) (55 + d)

-- "one word a line, eight capital hexadecimal digits"
abbrev pub word_line : ℕ → List ℕ
word_line w =
    hex_digit (w / 2 ^ 28)
    ∷ hex_digit (w / 2 ^ 24 % 16)
    ∷ hex_digit (w / 2 ^ 20 % 16)
    ∷ hex_digit (w / 2 ^ 16 % 16)
    ∷ hex_digit (w / 2 ^ 12 % 16)
    ∷ hex_digit (w / 2 ^ 8 % 16)
    ∷ hex_digit (w / 2 ^ 4 % 16)
    ∷ hex_digit (w % 16)
    ∷ 10
    ∷ []

unfoldable pub listing : List ℕ → List ℕ
listing [] = []
listing (w ∷ ws) = word_line w ++ listing ws

-- a number of at most so many digits, in decimal
unfoldable pub decimal_digits : ℕ → ℕ → List ℕ
decimal_digits zero n = []
decimal_digits (suc k) n = pick (ltb n 10) ((48 + n) ∷ []) (decimal_digits k (n / 10) ++ ((48 + n % 10) ∷ []))

-- every number of 64 bits has at most twenty
abbrev pub decimal_text : ℕ → List ℕ
decimal_text n = decimal_digits 20 n

-- "For a refusal it prints one line, number and place in decimal with a blank between."
unfoldable pub refusal_line : ℕ → ℕ → List ℕ
refusal_line number place = decimal_text number ++ (32 ∷ decimal_text place ++ (10 ∷ []))

-- the compiler's answer, with the words that the output slice holds
unfoldable pub answer_text : Compiled → List ℕ → List ℕ
answer_text (Written n) words = listing (take n words)
answer_text (Refused number place) words = refusal_line number place

-- "It reads words, most significant byte first": the image is compiled into a slice of 16,384 words, as many as any form admits
unfoldable pub printed : List ℕ → List ℕ
printed image = answer_text (compile_bytes image (replicate 65536 0)).0 (words_of (compile_bytes image (replicate 65536 0)).1)
