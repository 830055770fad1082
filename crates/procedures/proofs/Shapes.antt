-- The compiled body of a procedure, from the parts in which it is written. Assumes nothing.
use Prim.Native.Nat.{ℕ, ◌+◌}
use mathlib.Core.Bool.{Bool, true, false}
use mathlib.Core.List.{[], ◌∷◌, ◌++◌, append-nil}
use mathlib.Core.Path.{◌≡◌, sym, ap}
use native.Mathlib.Omega.{arith}
use Rattle.definitions.specs.Choice.{pick}
use Rattle.definitions.specs.Image.{variable, return, Block}
use Rattle.definitions.specs.Encoding.{word_with, statement_word_with, expression_words, statement_count, statement_words, statements_words}
use Rattle.definitions.specs.Compiling.{one, closed}
use Rattle.laws.specs.Following.{one_count, followed_count, followed_words}

pub closed_count : (d : Bool) (rv : ℕ) (b : Block) → pick d 1 0 + statement_count b + pick d 1 0 ≡ statement_count (closed d rv b)
unfolding closed statement_count
closed_count true rv b =
    let z = followed_count b (one (return (variable 0 rv))) in let y = one_count (return (variable 0 rv)) in omega arith
closed_count false rv b = omega arith

pub closed_words : (d : Bool) (rv : ℕ) (b : Block)
    → (pick d (statement_word_with 0 (rv + 1) ∷ (word_with 9 1 ∷ [])) [] ++ statements_words b) ++ pick d (statement_word_with 4 0 ∷ (word_with 10 rv ∷ [])) []
    ≡ statements_words (closed d rv b)
unfolding closed statement_words expression_words
closed_words true rv b =
    ap (λ ws. statement_word_with 0 (rv + 1) ∷ (word_with 9 1 ∷ ws)) (sym (followed_words b (one (return (variable 0 rv)))))
closed_words false rv b = append-nil _
