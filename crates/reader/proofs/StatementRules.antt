-- What `read_statement` and `read_block` read, step by step. Assumes nothing.
use mathlib.Core.Path.{◌≡◌, refl, sym}
use mathlib.Core.Bool.{true, false, not}
use mathlib.Core.List.{List}
use Prim.Native.Nat.{ℕ, zero, suc, ◌+◌, ◌-◌, ◌<◌}
use native.Mathlib.Omega.{arith}
use borrow.Author.Tests.{ne_eqb}
use lib.Dec.{eqb}
use lib.ListN.{get_or}
use Rattle.std.specs.Prelude.{Result, Ok}
use Rattle.definitions.specs.declared.Fault.{Fault}
use Rattle.definitions.specs.Image.{payload_of, op_of, called_of, statement_word, block_word}
use Rattle.definitions.specs.Reading.{statement_at, read_expression}
use Rattle.definitions.specs.Reading.{read_statement, read_statements, read_block}
use Rattle.laws.specs.WordTests.{ops}
use Rattle.image_words.specs.Read.{arguments_at, statements_at}
use Rattle.reader.specs.Answers.{answer, word_at, ensured}
use Rattle.reader.specs.AnswerLaws.{got_of}
use Rattle.reader.specs.Ends.{Sound, marked, mark_sound}
use Rattle.reader.proofs.Steps.{◌>>=◌, answer_then, answer_last, answer_word, one_more}

pub op_range : (me w : ℕ) → statement_word me w ≡ true → op_of w < 6
op_range me w g = ops me w g (λ k. omega arith) (λ k. omega arith) (λ k. omega arith) (λ k. omega arith) (λ k. omega arith) (λ k. omega arith)

module _ (l : ℕ) (params : List ℕ) (me : ℕ) (image : List ℕ) (at : ℕ) where
  -- what follows a statement's word, with the levels that are left below it
  unfoldable pub following : ℕ → Result ℕ Fault
  following w = answer (statement_at (λ a. read_expression l image a) (λ a. read_block l params me image a) params at w)

  module _ (w : ℕ) where
    pub assign_ends : op_of w ≡ 0 → following w ≡ answer (read_expression l image (at + 1))
    unfolding following
    assign_ends k = rw k (simp answer_last)

    pub return_ends : op_of w ≡ 4 → following w ≡ answer (read_expression l image (at + 1))
    unfolding following
    return_ends k = rw k (simp answer_last)

    pub store_ends : op_of w ≡ 1 → following w ≡ (answer (read_expression l image (at + 1)) >>= λ n. answer (read_expression l image n))
    unfolding following
    store_ends k = rw k (answer_then _ _ _ (λ a n. simp answer_last))

    pub if_ends : op_of w ≡ 2
        → following w
        ≡ (answer (read_expression l image (at + 1)) >>= λ n. answer (read_block l params me image n) >>= λ m. answer (read_block l params me image m))
    unfolding following
    if_ends k = rw k (answer_then _ _ _ (λ a n. answer_then _ _ _ (λ b m. simp answer_last)))

    pub for_ends : op_of w ≡ 3
        → following w
        ≡ (answer (read_expression l image (at + 1)) >>= λ n. answer (read_expression l image n) >>= λ m. answer (read_block l params me image m))
    unfolding following
    for_ends k = rw k (answer_then _ _ _ (λ a n. answer_then _ _ _ (λ b m. simp answer_last)))

    pub call_ends : op_of w ≡ 5 → following w ≡ answer (arguments_at (get_or params (called_of w) 0) l image (at + 1))
    unfolding following arguments_at
    call_ends k = rw k (simp answer_last)

module _ (params : List ℕ) (me : ℕ) (image : List ℕ) where
  pub statement_begun : (l at : ℕ)
      → answer (read_statement l params me image at)
      ≡ (word_at image at >>= λ w. ensured (statement_word me w) 2 at >>= λ _. ensured (not (eqb l 0)) 5 at
      >>= λ _. following (l - 1) params me image at w)
  unfolding read_statement following answer
  statement_begun zero at = simp answer_word
  statement_begun (suc l) at =
      let below : suc l - 1 ≡ l = omega arith in
      let deep : eqb (suc l) 0 ≡ false = ne_eqb _ _ (λ z. omega arith) in simp (answer_word, below, deep)

  pub block_begun : (l at : ℕ)
      → answer (read_block l params me image at)
      ≡ (word_at image at >>= λ w. ensured (block_word w) 2 at >>= λ _. ensured (not (eqb l 0)) 5 at
      >>= λ _. answer (statements_at (payload_of w) (l - 1) params me image (at + 1)))
  unfolding read_block statements_at answer
  block_begun zero at = simp answer_word
  block_begun (suc l) at =
      let below : suc l - 1 ≡ l = omega arith in
      let deep : eqb (suc l) 0 ≡ false = ne_eqb _ _ (λ z. omega arith) in simp (answer_word, below, deep)

  module _ (l : ℕ) where
    pub statements_none : (n at : ℕ) → n ≡ 0 → answer (statements_at n l params me image at) ≡ Ok at
    unfolding statements_at read_statements answer
    statements_none n at e = rw e

    pub statements_more : (n k at : ℕ) → k < n
        → answer (statements_at (n - k) l params me image at)
        ≡ (answer (read_statement l params me image at) >>= λ m. answer (statements_at (n - (k + 1)) l params me image m))
    unfolding statements_at read_statements
    statements_more n k at h = rw (one_more n k h) (answer_then _ _ _ (λ e m. simp answer_last))

    pub block_marked : (at end : ℕ) (ends ends' : List ℕ) → answer (read_block l params me image at) ≡ Ok end → Sound image params me ends
        → ends' ≡ marked ends at end → Sound image params me ends'
    block_marked at end ends ends' e s m = let (b, q) = got_of _ _ end (sym e) refl in rw m (mark_sound image params me ends at l b end s q)

pub ruleset statement_rules = (op_range, statement_begun, assign_ends, return_ends, store_ends, if_ends, for_ends, call_ends)

pub ruleset block_rules = (block_begun, statements_none, statements_more)
