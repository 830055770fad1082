-- The contract of the function on lent bytes, and of its C form. Assumes nothing.
use Rattle.std.specs.Prelude.{ℕ, List, ◌≡◌}
use Rattle.definitions.specs.Bytes.{words_of}
use Rattle.padding.specs.Rule.{unpadded}

-- The number is the rule's, of the cells that the bytes spell; the block is lent to be read, and holds afterwards what it held.
abbrev pub AnswersBlock : List ℕ → List ℕ → ℕ → Type 0
AnswersBlock block block' number = (number ≡ unpadded (words_of block)) × (block' ≡ block)
