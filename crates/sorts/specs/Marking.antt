-- What marking a part that was read gives: the place after it, and the marks afterwards. Assumes nothing.
use Rattle.std.specs.Prelude.{ℕ, List}
use Rattle.definitions.specs.Image.{Statement, Block}
use Rattle.definitions.specs.Reading.{Parse, got, refused}
use Rattle.definitions.specs.Sorts.{mark_statement, mark_block}

unfoldable pub statement_marks : Parse Statement → List ℕ → ℕ × List ℕ
statement_marks (got s n) marks = (n, mark_statement s marks)
statement_marks (refused n p) marks = (0, marks)

unfoldable pub block_marks : Parse Block → List ℕ → ℕ × List ℕ
block_marks (got b n) marks = (n, mark_block b marks)
block_marks (refused n p) marks = (0, marks)
