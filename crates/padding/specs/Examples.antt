-- Worked values of the rule, by computing. Assumes nothing.
use Rattle.std.specs.Prelude.{ℕ, List, [], ◌∷◌, ◌++◌, map, ◌≡◌, refl, replicate}
use Rattle.padding.specs.Rule.{all_hold, unpadded}

record Example : Type 0 where
  block : List ℕ
  number : ℕ

abbrev example : List ℕ → ℕ → Example
example b k = record { block = b; number = k }

-- so many cells of content
abbrev content : ℕ → List ℕ
content k = replicate k 0xA5

-- each padding string that the RFC lists by name, and what is near to one
abbrev examples : List Example
examples =
    example (content 15 ++ (1 ∷ [])) 15
    ∷ example (content 14 ++ (2 ∷ 2 ∷ [])) 14
    ∷ example (replicate 16 16) 0
    -- a block that ends in 1 is padded, whatever stands before it
    ∷ example (replicate 16 1) 15
    -- every cell is tested, the first of them too
    ∷ example (content 13 ++ (4 ∷ 3 ∷ 3 ∷ [])) 255
    ∷ example (15 ∷ replicate 15 16) 255
    -- no such number, in the last cell or in all
    ∷ example (content 15 ++ (0 ∷ [])) 255
    ∷ example (content 15 ++ (17 ∷ [])) 255
    ∷ example (content 15 ++ (0xFFFFFFFF ∷ [])) 255
    ∷ example (replicate 16 0) 255
    ∷ example (replicate 16 17) 255
    -- a cell is compared whole
    ∷ example (content 15 ++ (0x101 ∷ [])) 255
    -- no block
    ∷ example [] 255
    ∷ example (replicate 15 1) 255
    ∷ example (replicate 17 1) 255
    ∷ []

pub worked_so : map (λ e. unpadded e.block) examples ≡ map (λ e. e.number) examples
unfolding all_hold unpadded
worked_so = refl
