-- The padding of RFC 5652, section 6.3, for blocks of k = 16: "the input shall be padded at the trailing end with k-(lth mod k)
-- octets all having value k-(lth mod k), where lth is the length of the input." Here a cell, a word of 32 bits, stands for an octet.
use Rattle.std.specs.Prelude.{ℕ, ◌-◌, ◌≤◌, Bool, true, ◌&&◌, List, [], ◌∷◌, ◌++◌, ◌≡◌, eqb, leb, length, get_or, drop, replicate}
use Rattle.definitions.specs.Choice.{pick}

-- "a secret block of 16 cells": k
abbrev pub block_cells : ℕ
block_cells = 16

-- "otherwise 255"
abbrev pub not_padded : ℕ
not_padded = 255

-- whether all cells hold n
unfoldable pub all_hold : ℕ → List ℕ → Bool
all_hold n [] = true
all_hold n (c ∷ cs) = eqb c n && all_hold n cs

-- "the last cell"
abbrev pub last_cell : List ℕ → ℕ
last_cell block = get_or block (block_cells - 1) 0

-- "n, from 1 to 16, and the last n cells all hold n"
abbrev pub ends_in : ℕ → List ℕ → Bool
ends_in n block = leb 1 n && (leb n block_cells && all_hold n (drop (block_cells - n) block))

-- "if the last cell is n, ..": cells that are not 16 are no block
abbrev pub is_padded : List ℕ → Bool
is_padded block = eqb (length block) block_cells && ends_in (last_cell block) block

-- Document 02, wish 14: "16 minus n if the last cell is n, from 1 to 16, and the last n cells all hold n, otherwise 255"
unfoldable pub unpadded : List ℕ → ℕ
unpadded block = pick (is_padded block) (block_cells - last_cell block) not_padded

-- ---- The same as a proposition, in the RFC's words

-- "In other words, the input is padded at the trailing end with one of the following strings": 01; 02 02; .. up to k times k.
-- A block that is made of some content and n cells that all hold n
pub record Padded (block content : List ℕ) (n : ℕ) : Type 0 where
  pub whole : length block ≡ block_cells
  pub some : 1 ≤ n
  pub ends : block ≡ content ++ replicate n n

-- the number that the rule gives a block: how long its content is, and 255 where it is not padded
pub data Unpads (block : List ℕ) : ℕ → Type 0 where
  padded : (content : List ℕ) (n : ℕ) → Padded block content n → Unpads block (length content)
  otherwise : ((content : List ℕ) (n : ℕ) → Padded block content n → ⊥) → Unpads block not_padded
