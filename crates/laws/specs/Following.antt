-- The words and the number of statements of two blocks in a row, and of one statement. Assumes nothing.
use Rattle.std.specs.Prelude.{◌+◌, ◌++◌, ◌≡◌, refl}
use Rattle.std.proofs.Common.{append_assoc, append-nil, sym, ap, ◌∙◌, arith}
use Rattle.definitions.specs.Image.{Statement, Block, done, sequence}
use Rattle.definitions.specs.Encoding.{statement_count, statement_words, statements_words}
use Rattle.definitions.specs.Compiling.{one, followed_by}

pub one_words : (s : Statement) → statement_words s ≡ statements_words (one s)
unfolding statement_words
one_words s = sym (append-nil (statement_words s))

pub one_count : (s : Statement) → statement_count (one s) ≡ 1
unfolding statement_count
one_count s = refl

pub followed_count : (a b : Block) → statement_count (followed_by a b) ≡ statement_count a + statement_count b
unfolding followed_by statement_count
followed_count done b = omega arith
followed_count (sequence p s a) b = ap (λ z. 1 + z) (followed_count a b) ∙ omega arith

pub followed_words : (a b : Block) → statements_words (followed_by a b) ≡ statements_words a ++ statements_words b
unfolding followed_by statement_words
followed_words done b = refl
followed_words (sequence p s a) b =
    ap (λ z. statement_words s ++ z) (followed_words a b) ∙ sym (append_assoc (statement_words s) (statements_words a) (statements_words b))
