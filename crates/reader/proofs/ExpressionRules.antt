-- What `read_expression` and `read_arguments` read, step by step. Assumes nothing.
use mathlib.Core.Path.{◌≡◌}
use mathlib.Core.Bool.{true, false, not}
use borrow.Author.Tests.{ne_eqb}
use mathlib.Core.List.{List}
use Prim.Native.Nat.{ℕ, zero, suc, ◌+◌, ◌-◌, ◌<◌}
use native.Mathlib.Omega.{arith}
use lib.Dec.{eqb}
use Rattle.std.specs.Prelude.{Result, Ok}
use Rattle.definitions.specs.declared.Fault.{Fault}
use Rattle.definitions.specs.Image.{kind_of, expression_word, raw_word, constant}
use Rattle.definitions.specs.Reading.{got, expression_at, read_expression}
use Rattle.definitions.specs.Reading.{read_arguments}
use Rattle.laws.specs.WordTests.{kinds}
use Rattle.image_words.specs.Read.{arguments_at}
use Rattle.reader.specs.Answers.{answer, word_at, ensured}
use Rattle.reader.proofs.Steps.{◌>>=◌, answer_then, answer_last, answer_word, one_more}

pub kind_range : (w : ℕ) → expression_word w ≡ true → (6 < kind_of w) × (kind_of w < 15)
kind_range w g =
    kinds w g (λ k. (omega arith, omega arith)) (λ k. (omega arith, omega arith)) (λ k. (omega arith, omega arith)) (λ k. (omega arith, omega arith))
    (λ k. (omega arith, omega arith)) (λ k. (omega arith, omega arith)) (λ k. (omega arith, omega arith)) (λ k. (omega arith, omega arith))

-- what follows an expression's word, with the levels that are left below it
unfoldable pub operands : ℕ → List ℕ → ℕ → ℕ → Result ℕ Fault
operands l image at w = answer (expression_at (λ a. read_expression l image a) image at w)

pub expression_begun : (l : ℕ) (image : List ℕ) (at : ℕ)
    → answer (read_expression l image at)
    ≡ (word_at image at >>= λ w. ensured (expression_word w) 2 at >>= λ _. ensured (not (eqb l 0)) 5 at >>= λ _. operands (l - 1) image at w)
unfolding read_expression operands answer
expression_begun zero image at = simp answer_word
expression_begun (suc l) image at =
    let below : suc l - 1 ≡ l = omega arith in
    let deep : eqb (suc l) 0 ≡ false = ne_eqb _ _ (λ z. omega arith) in simp (answer_word, below, deep)

module _ (l : ℕ) (image : List ℕ) (at w : ℕ) where
  pub constant_ends : kind_of w ≡ 7 → operands l image at w ≡ Ok (at + 1)
  unfolding operands answer
  constant_ends k = rw k

  pub boolean_ends : kind_of w ≡ 9 → operands l image at w ≡ Ok (at + 1)
  unfolding operands answer
  boolean_ends k = rw k

  pub variable_ends : kind_of w ≡ 10 → operands l image at w ≡ Ok (at + 1)
  unfolding operands answer
  variable_ends k = rw k

  pub raw_ends : kind_of w ≡ 8
      → operands l image at w ≡ (word_at image (at + 1) >>= λ v. ensured (raw_word v) 2 (at + 1) >>= λ _. Ok (at + 1 + 1))
  unfolding operands answer
  raw_ends k = rw k (answer_word image (at + 1) raw_word (λ v. got (constant at v) (at + 1 + 1)))

  pub cell_ends : kind_of w ≡ 11 → operands l image at w ≡ answer (read_expression l image (at + 1))
  unfolding operands
  cell_ends k = rw k (simp answer_last)

  pub unary_ends : kind_of w ≡ 12 → operands l image at w ≡ answer (read_expression l image (at + 1))
  unfolding operands
  unary_ends k = rw k (simp answer_last)

  pub binary_ends : kind_of w ≡ 13
      → operands l image at w ≡ (answer (read_expression l image (at + 1)) >>= λ n. answer (read_expression l image n))
  unfolding operands
  binary_ends k = rw k (answer_then _ _ _ (λ a n. simp answer_last))

  pub select_ends : kind_of w ≡ 14
      → operands l image at w ≡ (answer (read_expression l image (at + 1)) >>= λ n. answer (read_expression l image n) >>= λ m. answer (read_expression l image m))
  unfolding operands
  select_ends k = rw k (answer_then _ _ _ (λ a n. answer_then _ _ _ (λ b m. simp answer_last)))

pub ruleset expression_rules = (kind_range, expression_begun, constant_ends, boolean_ends, variable_ends, raw_ends, cell_ends, unary_ends, binary_ends, select_ends)

pub arguments_none : (n l : ℕ) (image : List ℕ) (at : ℕ) → n ≡ 0 → answer (arguments_at n l image at) ≡ Ok at
unfolding arguments_at read_arguments answer
arguments_none n l image at e = rw e

pub arguments_more : (n k l : ℕ) (image : List ℕ) (at : ℕ) → k < n
    → answer (arguments_at (n - k) l image at) ≡ (answer (read_expression l image at) >>= λ m. answer (arguments_at (n - (k + 1)) l image m))
unfolding arguments_at read_arguments
arguments_more n k l image at h = rw (one_more n k h) (answer_then _ _ _ (λ e m. simp answer_last))

pub ruleset arguments_rules = (arguments_none, arguments_more)
