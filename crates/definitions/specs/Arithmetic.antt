-- The arithmetic of words and booleans. A word is a number below 2 ^ 32; a boolean is 0 for false and 1 for true.
use Rattle.std.specs.Prelude.{ℕ, ◌+◌, ◌-◌, ◌*◌, ◌/◌, ◌%◌, ◌^◌, eqb, ltb}
use Rattle.std.specs.Int.Bits.{bit_or}
use Rattle.definitions.specs.Choice.{pick}

-- "0 add, 1 subtract, 2 multiply (modulo 2^32)"
abbrev pub add : ℕ → ℕ → ℕ
add a b = (a + b) % 2 ^ 32

abbrev pub subtract : ℕ → ℕ → ℕ
subtract a b = (a + 2 ^ 32 - b) % 2 ^ 32

abbrev pub multiply : ℕ → ℕ → ℕ
multiply a b = (a * b) % 2 ^ 32

-- "6 shift left, 7 shift right, 8 rotate left (counts modulo 32)"
abbrev pub shift_left : ℕ → ℕ → ℕ
shift_left a n = (a * 2 ^ (n % 32)) % 2 ^ 32

abbrev pub shift_right : ℕ → ℕ → ℕ
shift_right a n = a / 2 ^ (n % 32)

-- the bits that a shift left pushes out come back at the low end
abbrev pub rotate_left : ℕ → ℕ → ℕ
rotate_left a n = bit_or (shift_left a n) (a / 2 ^ (32 - n % 32))

-- "9 quotient, 10 remainder". The machine stops with 24 before a division by 0.
abbrev pub quotient : ℕ → ℕ → ℕ
quotient a b = a / b

abbrev pub remainder : ℕ → ℕ → ℕ
remainder a b = a % b

-- "boolean as word", "0 false, else true": 0 for 0, 1 for any other number
abbrev pub truth : ℕ → ℕ
truth a = pick (eqb a 0) 0 1

-- "11 equal, 12 less (unsigned): words to boolean"
abbrev pub equal : ℕ → ℕ → ℕ
equal a b = pick (eqb a b) 1 0

abbrev pub less : ℕ → ℕ → ℕ
less a b = pick (ltb a b) 1 0

-- "13 and, 14 or: booleans"
abbrev pub logical_and : ℕ → ℕ → ℕ
logical_and a b = pick (eqb a 0) 0 (truth b)

abbrev pub logical_or : ℕ → ℕ → ℕ
logical_or a b = pick (eqb a 0) (truth b) 1

-- "0 not", of a boolean
abbrev pub logical_not : ℕ → ℕ
logical_not a = pick (eqb a 0) 1 0

-- "1 complement", of a word: each of its 32 bits turned
abbrev pub complement : ℕ → ℕ
complement a = 0xFFFFFFFF - a
