-- What the scans of this crate answer of a part that was read: its label, or the rc after it, and the place after it. Assumes nothing.
use Rattle.std.specs.Prelude.{ℕ, Bool, false, ◌||◌, List}
use Rattle.definitions.specs.Image.{Expression, Statement, Block}
use Rattle.definitions.specs.Reading.{Parse, got, refused}
use Rattle.definitions.specs.Labels.{secret_in, rc_after, rc_after_block}
use Rattle.contexts.specs.declared.Seen.{Seen}
use Rattle.contexts.specs.declared.Passed.{Passed}

abbrev pub sight : Bool → ℕ → Seen
sight s n = record { secret = s; next = n }

abbrev pub passing : Bool → ℕ → Passed
passing r n = record { rc = r; next = n }

-- an expression: whether it is secret, the place after it
unfoldable pub seen : List ℕ → List ℕ → Parse Expression → Seen
seen types arrays (got e n) = sight (secret_in types arrays e) n
seen types arrays (refused n p) = sight false 0

-- two expressions: whether one of them is secret, the place after the second
unfoldable pub seen_two : List ℕ → List ℕ → Parse Expression → Parse Expression → Seen
seen_two types arrays x y = sight ((seen types arrays x).secret || (seen types arrays y).secret) (seen types arrays y).next

-- a statement: the rc after it, the place after it
unfoldable pub passed : List ℕ → List ℕ → Bool → Bool → Parse Statement → Passed
passed types arrays pc rc (got s n) = passing (rc_after types arrays pc rc s) n
passed types arrays pc rc (refused n p) = passing false 0

unfoldable pub passed_block : List ℕ → List ℕ → Bool → Bool → Parse Block → Passed
passed_block types arrays pc rc (got b n) = passing (rc_after_block types arrays pc rc b) n
passed_block types arrays pc rc (refused n p) = passing false 0
