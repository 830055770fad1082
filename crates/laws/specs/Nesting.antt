-- Secret ifs nest at most as deep as the levels of an image allow: each takes two, its own and that of its arm's block. Assumes nothing.
use Rattle.std.specs.Prelude.{ℕ, suc, ◌+◌, ◌*◌, ◌≤◌, max, Bool, true, false, List, ◌≡◌, refl, length, get_or}
use Rattle.std.proofs.Common.{arith}
use Rattle.definitions.specs.Choice.{pick}
use Rattle.definitions.specs.Image.{Statement, Block}
use Rattle.definitions.specs.Reading.{got, read_block}
use Rattle.definitions.specs.Labels.{secret_in}
use Rattle.definitions.specs.Compiling.{statement_nesting, block_nesting}
use Rattle.statements.specs.Limits.{FitsStatement, fit_assign, fit_store, fit_conditional, fit_loop, fit_return, fit_call}
use Rattle.statements.specs.Limits.{FitsBlock, fit_block, FitsStatements, fit_done, fit_sequence}
use Rattle.laws.specs.Reads.{Reads, read_as, ReadBlock, reads_block}

module _ (arrays types : List ℕ) (arity : ℕ → ℕ) (me : ℕ) where
  mutual
    unfolding statement_nesting

    nesting_statement : {l : ℕ} {s : Statement} → FitsStatement arity me l s → 2 * statement_nesting arrays types s ≤ l
    nesting_statement (fit_assign h e) = omega arith
    nesting_statement (fit_store h i e) = omega arith
    nesting_statement (fit_conditional {l} {c} {a} {b} x y z) = arms (secret_in types arrays c) (nesting_block y) (nesting_block z)
      where
        m : ℕ
        m = block_nesting arrays types a

        n : ℕ
        n = block_nesting arrays types b

        arms : (s : Bool) → 2 * m + 1 ≤ l → 2 * n + 1 ≤ l → 2 * (pick s 1 0 + max m n) ≤ suc l
        arms true h k = omega arith
        arms false h k = omega arith
    nesting_statement (fit_loop h f t b) = let n = nesting_block b in omega arith
    nesting_statement (fit_return e) = omega arith
    nesting_statement (fit_call f x n es) = omega arith

    pub nesting_block : {l : ℕ} {b : Block} → FitsBlock arity me l b → 2 * block_nesting arrays types b + 1 ≤ l
    nesting_block (fit_block b) = let n = nesting_statements b in omega arith

    nesting_statements : {l : ℕ} {b : Block} → FitsStatements arity me l b → 2 * block_nesting arrays types b ≤ l
    nesting_statements fit_done = omega arith
    nesting_statements (fit_sequence s b) = let m = nesting_statement s in let n = nesting_statements b in omega arith

-- of what was read
pub nesting_read : (arrays types : List ℕ) (l : ℕ) (params : List ℕ) (me : ℕ) (image : List ℕ) (at : ℕ) (b : Block) (n : ℕ)
    → read_block l params me image at ≡ got b n → 2 * block_nesting arrays types b + 1 ≤ l
nesting_read arrays types l params me image at b n e =
    let r : Reads (length image) (ReadBlock image params me l at) (got b n) = rw e at (reads_block image params me l at) in
    nesting_block arrays types (λ f. get_or params f 0) me ((read_as r).fits (λ f. get_or params f 0) (λ _ _. refl))
