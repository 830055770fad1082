-- What is left to walk of a call's values and a block's statements, which the passes go through one by one. Assumes nothing.
use Rattle.std.specs.Prelude.{ℕ, ◌+◌, ◌-◌, ◌<◌, true, List, ◌≡◌, get_or}
use Rattle.std.proofs.Common.{arith, sym, ap, ◌∙◌}
use Rattle.definitions.specs.Image.{payload_of, op_of, called_of}
use Rattle.definitions.specs.Reading.{read_expression, read_statement, read_block}
use Rattle.laws.specs.Parses.{ok, end_of}
use Rattle.image_words.specs.Read.{ExpressionRead, StatementRead, arguments_at, statements_at}
use Rattle.image_words.specs.StatementParts.{read_argument, read_arguments_lem, read_statement_lem, read_statements_lem, block_statements, read_call}
use Rattle.image_words.specs.Skipping.{Skippable, skip_arguments}

-- ---- the values from number j on, of n

module _ (l : ℕ) (image : List ℕ) (n at j : ℕ) (t : ok (arguments_at (n - j) l image at) ≡ true) (h : j < n) where
  pub next_argument : ExpressionRead l image at
  next_argument = read_argument (n - j) l image at t (omega arith)

  pub arguments_left : (p : ℕ) → p ≡ end_of (read_expression l image at) → ok (arguments_at (n - (j + 1)) l image p) ≡ true
  arguments_left p e =
      let z : n - (j + 1) ≡ n - j - 1 = omega arith in rw z (read_arguments_lem (n - j) l image at p t (omega arith) e)

-- ---- the statements from number j on, of n

module _ (l : ℕ) (params : List ℕ) (me : ℕ) (image : List ℕ) (at : ℕ) where
  -- all of a block
  module _ (t : ok (read_block l params me image at) ≡ true) (n : ℕ) (h : n ≡ payload_of (get_or image at 0)) where
    all : n - 0 ≡ payload_of (get_or image at 0)
    all = omega arith

    pub block_ready : ok (statements_at (n - 0) (l - 1) params me image (at + 1)) ≡ true
    block_ready = rw all (block_statements l params me image at t).0

    pub block_begins : statements_at (n - 0) (l - 1) params me image (at + 1) ≡ read_block l params me image at
    block_begins = rw all (sym (block_statements l params me image at t).1)

  module _ (n j : ℕ) (t : ok (statements_at (n - j) l params me image at) ≡ true) (h : j < n) where
    pub next_statement : StatementRead l params me image at
    next_statement = read_statement_lem (n - j) l params me image at t (omega arith)

    pub statements_left : (p : ℕ) → p ≡ end_of (read_statement l params me image at) → ok (statements_at (n - (j + 1)) l params me image p) ≡ true
    statements_left p e =
        let z : n - (j + 1) ≡ n - j - 1 = omega arith in rw z (read_statements_lem (n - j) l params me image at p t (omega arith) e)

-- ---- a call's values are passed over

module _ (l : ℕ) (params : List ℕ) (me : ℕ) (image : List ℕ) (at : ℕ) (t : ok (read_statement l params me image at) ≡ true)
    (op : ℕ) (ho : op ≡ op_of (get_or image at 0)) (k : op ≡ 5)
    (f c i : ℕ) (hf : f ≡ called_of (get_or image at 0)) (hc : c ≡ get_or params f 0) (hi : i ≡ c) where
  pub values_are : i ≡ get_or params (called_of (get_or image at 0)) 0
  values_are = hi ∙ hc ∙ ap (λ (z : ℕ). get_or params z 0) hf

  pub call_skips : Skippable image i (at + 1)
  call_skips = rw values_are (skip_arguments _ (l - 1) image (at + 1) (read_call l params me image at t op ho k))
