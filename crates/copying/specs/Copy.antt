-- What copying an expression that was read leaves: the place after it, and the words of its renumbered tree in the output. Assumes nothing.
use Rattle.std.specs.Prelude.{ℕ, List}
use Rattle.definitions.specs.Image.{Expression}
use Rattle.definitions.specs.Reading.{Parse, got, refused}
use Rattle.definitions.specs.Encoding.{expression_words, argument_words}
use Rattle.definitions.specs.Compiling.{moved, moved_all}
use Rattle.writer.specs.Writing.{Output, writes}

-- the place after what was read, and the output afterwards
abbrev pub Copied : Type 0
Copied = ℕ × Output

abbrev pub spot : ℕ → Output → Copied
spot n z = (n, z)

unfoldable pub copied : ℕ → ℕ → List ℕ → Parse Expression → Copied
copied first o out (got e n) = spot n (writes o out (expression_words (moved first e)))
copied first o out (refused n p) = spot 0 (o, out)

-- two expressions, one behind the other
unfoldable pub copied_two : ℕ → ℕ → List ℕ → Parse Expression → Parse Expression → Copied
copied_two first o out x y = copied first (copied first o out x).1.0 (copied first o out x).1.1 y

unfoldable pub copied_arguments : ℕ → ℕ → List ℕ → Parse (List Expression) → Copied
copied_arguments first o out (got es n) = spot n (writes o out (argument_words (moved_all first es)))
copied_arguments first o out (refused n p) = spot 0 (o, out)
