-- What a pass over words may take for granted of the place where it begins: that a part was read there. The first two
-- fields of each follow from the third; the code's indices and levels rest on them. Assumes nothing.
use Rattle.std.specs.Prelude.{ℕ, ◌≤◌, ◌<◌, true, List, ◌≡◌, length}
use Rattle.definitions.specs.Image.{Expression, Block}
use Rattle.definitions.specs.Reading.{Parse, read_expression, read_arguments, read_statement, read_statements, read_block}
use Rattle.laws.specs.Parses.{ok, end_of}

pub record ExpressionRead (level : ℕ) (image : List ℕ) (at : ℕ) : Type 0 where
  pub deep : 1 ≤ level
  pub within : at < length image
  pub read : ok (read_expression level image at) ≡ true

-- two expressions, one behind the other
pub record PairRead (level : ℕ) (image : List ℕ) (at : ℕ) : Type 0 where
  pub first : ExpressionRead level image at
  pub second : ExpressionRead level image (end_of (read_expression level image at))

-- a number of expressions in a row, as the values of a call are, and of statements, as those of a block are
unfoldable pub arguments_at : ℕ → ℕ → List ℕ → ℕ → Parse (List Expression)
arguments_at n level image at = read_arguments n (λ a. read_expression level image a) at

unfoldable pub statements_at : ℕ → ℕ → List ℕ → ℕ → List ℕ → ℕ → Parse Block
statements_at n level params me image at = read_statements n (λ a. read_statement level params me image a) at

pub record StatementRead (level : ℕ) (params : List ℕ) (me : ℕ) (image : List ℕ) (at : ℕ) : Type 0 where
  pub deep : 1 ≤ level
  pub within : at < length image
  pub read : ok (read_statement level params me image at) ≡ true

pub record BlockRead (level : ℕ) (params : List ℕ) (me : ℕ) (image : List ℕ) (at : ℕ) : Type 0 where
  pub deep : 1 ≤ level
  pub within : at < length image
  pub read : ok (read_block level params me image at) ≡ true
