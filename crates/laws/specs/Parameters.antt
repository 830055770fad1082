-- A body names only procedures before its own, so its reading, refusals too, rests on the numbers of parameters of those alone.
-- Assumes nothing.
use Rattle.std.specs.Prelude.{◌≡◌, refl, Bool, true, false, List, ℕ, zero, suc, ◌+◌, ◌<◌, leb, length, get_or}
use Rattle.std.proofs.Common.{ap, ◌∙◌}
use Rattle.definitions.specs.Choice.{pick}
use Rattle.definitions.specs.Image.{payload_of, block_word, called_of, result_of, statement_word, Expression, Statement}
use Rattle.definitions.specs.Image.{call, Block}
use Rattle.definitions.specs.Reading.{Parse, got, refused, Reader, and_then, on_word, statement_at, read_expression}
use Rattle.definitions.specs.Reading.{read_arguments, read_statement, read_statements, read_block}
use Rattle.laws.specs.WordTests.{call_limit, ops}
use Rattle.laws.specs.Levels.{Agree}

word_same : {A : Type 0} (image : List ℕ) (at : ℕ) (good : ℕ → Bool) (f g : ℕ → Parse A)
    → (good (get_or image at 0) ≡ true → f (get_or image at 0) ≡ g (get_or image at 0)) → on_word image at good f ≡ on_word image at good g
word_same image at good f g k = ends (leb (length image) at) (good (get_or image at 0)) refl
  where
    ends : (b t : Bool) → good (get_or image at 0) ≡ t
        → pick b (refused 3 (length image)) (pick t (f (get_or image at 0)) (refused 2 at))
        ≡ pick b (refused 3 (length image)) (pick t (g (get_or image at 0)) (refused 2 at))
    ends true t e = refl
    ends false true e = k e
    ends false false e = refl

-- readers that agree everywhere are one reader
reader_same : {A : Type 0} (f g : Reader A) → ((a : ℕ) → f a ≡ g a) → f ≡ g
reader_same f g k = λ i. λ a. k a i

module _ (params params' : List ℕ) (me : ℕ) (agree : Agree me params params') (image : List ℕ) where
  -- only a call looks at the numbers, and only at one below `me`
  op_same : (operand : Reader Expression) (block : Reader Block) (at w : ℕ) → statement_word me w ≡ true
      → statement_at operand block params at w ≡ statement_at operand block params' at w
  op_same operand block at w t =
      ops me w t (λ o. rw o) (λ o. rw o) (λ o. rw o) (λ o. rw o) (λ o. rw o) (λ o. let low = call_limit me w t o in rw o (arguments low))
    where
      arguments : called_of w < me
          → and_then (read_arguments (get_or params (called_of w) 0) operand (at + 1)) (λ es n. got (call (called_of w) (result_of w) es) n)
          ≡ and_then (read_arguments (get_or params' (called_of w) 0) operand (at + 1)) (λ es n. got (call (called_of w) (result_of w) es) n)
      arguments h = rw (agree (called_of w) h)

  mutual
    unfolding read_statement read_block

    pub statement_params : (l : ℕ) (at : ℕ) → read_statement l params me image at ≡ read_statement l params' me image at
    statement_params zero at = refl
    statement_params (suc l) at =
        word_same image at (λ w. statement_word me w)
        (λ w. statement_at (λ a. read_expression l image a) (λ a. read_block l params me image a) params at w)
        (λ w. statement_at (λ a. read_expression l image a) (λ a. read_block l params' me image a) params' at w)
        (λ t. ap (λ (r : Reader Block). statement_at (λ a. read_expression l image a) r params at (get_or image at 0))
        (reader_same (λ a. read_block l params me image a) (λ a. read_block l params' me image a) (λ a. block_params l a))
        ∙ op_same (λ a. read_expression l image a) (λ a. read_block l params' me image a) at (get_or image at 0) t)

    pub block_params : (l : ℕ) (at : ℕ) → read_block l params me image at ≡ read_block l params' me image at
    block_params zero at = refl
    block_params (suc l) at =
        ap (λ (r : Reader Statement). on_word image at block_word (λ w. read_statements (payload_of w) r (at + 1)))
        (reader_same (λ a. read_statement l params me image a) (λ a. read_statement l params' me image a) (λ a. statement_params l a))

  pub statements_params : (n l : ℕ) (at : ℕ)
      → read_statements n (λ a. read_statement l params me image a) at ≡ read_statements n (λ a. read_statement l params' me image a) at
  statements_params n l at =
      ap (λ (r : Reader Statement). read_statements n r at)
      (reader_same (λ a. read_statement l params me image a) (λ a. read_statement l params' me image a) (λ a. statement_params l a))
