-- Worked values of the definitions, as a table with one theorem over the whole of it.
-- Assumes nothing.
use Rattle.std.specs.Prelude.{◌≡◌, refl, List, [], ◌∷◌, map, ℕ}
use Rattle.definitions.specs.Operators.{apply_binary, apply_unary}
use Rattle.definitions.specs.Bytes.{words_of, bytes_of, lent}

record Case : Type 0 where
  operator : ℕ
  left : ℕ
  right : ℕ
  value : ℕ

abbrev case : ℕ → ℕ → ℕ → ℕ → Case
case o a b v = record { operator = o; left = a; right = b; value = v }

-- the operators at words where a wrong width, count, order or sign shows
abbrev cases : List Case
cases =
    case 0 0xffffffff 1 0
    ∷ case 1 0 1 0xffffffff
    ∷ case 2 0xffffffff 0xffffffff 1
    ∷ case 3 0xff00ff00 0x0ff00ff0 0x0f000f00
    ∷ case 4 0xff00ff00 0x0ff00ff0 0xfff0fff0
    ∷ case 5 0xff00ff00 0x0ff00ff0 0xf0f0f0f0
    ∷ case 6 0x80000001 33 2
    ∷ case 7 0x80000001 33 0x40000000
    ∷ case 8 0x80000001 1 3
    ∷ case 8 0x12345678 32 0x12345678
    ∷ case 9 0xffffffff 16 0x0fffffff
    ∷ case 10 0xffffffff 16 15
    ∷ case 11 7 7 1
    ∷ case 12 7 7 0
    ∷ case 12 1 0x80000000 1
    ∷ case 13 1 0 0
    ∷ case 14 1 0 1
    ∷ []

pub binary_cases : map (λ c. apply_binary c.operator c.left c.right) cases ≡ map (λ c. c.value) cases
unfolding apply_binary
binary_cases = refl

pub unary_cases : apply_unary 0 0 ∷ apply_unary 0 1 ∷ apply_unary 1 1 ∷ apply_unary 2 1 ∷ [] ≡ 1 ∷ 0 ∷ 0xfffffffe ∷ 1 ∷ []
unfolding apply_unary
unary_cases = refl

abbrev bytes : List ℕ
bytes = 1 ∷ 2 ∷ 3 ∷ 4 ∷ 255 ∷ 254 ∷ []

pub words_case : words_of bytes ≡ 0x01020304 ∷ []
unfolding words_of
words_case = refl

pub lent_case : lent bytes (0x0a0b0c0d ∷ []) ≡ 10 ∷ 11 ∷ 12 ∷ 13 ∷ 255 ∷ 254 ∷ []
unfolding lent bytes_of
lent_case = refl
