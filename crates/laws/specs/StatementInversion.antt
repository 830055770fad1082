-- A statement or a block that was read, opened: one law an op says what its parts are, where they were read, and what tree they make.
-- A pass over words knows of a statement no more than this. Assumes nothing.
use Rattle.std.specs.Prelude.{◌≡◌, refl, true, List, ℕ, zero, suc, ◌+◌, ◌-◌, ◌≤◌, ◌<◌, length, get_or}
use Rattle.std.proofs.Common.{sym, ap, ◌∙◌, arith}
use Rattle.definitions.specs.Image.{payload_of, block_word, op_of, target_of, called_of, result_of, statement_word, Expression}
use Rattle.definitions.specs.Image.{Statement, assign, store, conditional, loop, return, call, Block, done, sequence}
use Rattle.definitions.specs.Reading.{got, refused, Reader, on_word, statement_at, read_expression, read_arguments}
use Rattle.definitions.specs.Reading.{read_statement, read_statements, read_block}
use Rattle.laws.specs.Tests.{false_true}
use Rattle.laws.specs.Parses.{ok, on_ok, open_one, open_two, open_three}
use Rattle.laws.specs.WordTests.{call_op, call_limit}

-- the word tested, then its op
pub statement_step : (l : ℕ) (params : List ℕ) (me : ℕ) (image : List ℕ) (at : ℕ) → 1 ≤ l
    → read_statement l params me image at
    ≡ on_word image at (λ w. statement_word me w)
    (λ w. statement_at (λ a. read_expression (l - 1) image a) (λ a. read_block (l - 1) params me image a) params at w)
unfolding read_statement
statement_step zero params me image at h = absurd (omega arith)
statement_step (suc l) params me image at h = let e : suc l - 1 ≡ l = omega arith in rw e

-- the word tested, then that many statements
pub block_step : (l : ℕ) (params : List ℕ) (me : ℕ) (image : List ℕ) (at : ℕ) → 1 ≤ l
    → read_block l params me image at
    ≡ on_word image at block_word (λ w. read_statements (payload_of w) (λ a. read_statement (l - 1) params me image a) (at + 1))
unfolding read_block
block_step zero params me image at h = absurd (omega arith)
block_step (suc l) params me image at h = let e : suc l - 1 ≡ l = omega arith in rw e

-- no level is left: nothing is read
statement_none : (params : List ℕ) (me : ℕ) (image : List ℕ) (at : ℕ) → ok (read_statement 0 params me image at) ≡ true → ⊥
unfolding read_statement ok
statement_none params me image at t =
    let (h, g, e) = on_ok {A = Statement} image at (λ w. statement_word me w) (λ w. refused 5 at) t in false_true (sym (ap ok e) ∙ t)

block_none : (params : List ℕ) (me : ℕ) (image : List ℕ) (at : ℕ) → ok (read_block 0 params me image at) ≡ true → ⊥
unfolding read_block ok
block_none params me image at t =
    let (h, g, e) = on_ok {A = Block} image at block_word (λ w. refused 5 at) t in false_true (sym (ap ok e) ∙ t)

-- what every statement that was read has
pub open_statement : (l : ℕ) (params : List ℕ) (me : ℕ) (image : List ℕ) (at : ℕ) → ok (read_statement l params me image at) ≡ true
    → (1 ≤ l) × (at < length image) × (statement_word me (get_or image at 0) ≡ true)
    × (read_statement l params me image at
    ≡ statement_at (λ a. read_expression (l - 1) image a) (λ a. read_block (l - 1) params me image a) params at (get_or image at 0))
open_statement zero params me image at t = absurd (statement_none params me image at t)
open_statement (suc l) params me image at t =
    let s = statement_step (suc l) params me image at (omega arith) in
    let (h, g, e) = on_ok image at (λ w. statement_word me w)
    (λ w. statement_at (λ a. read_expression (suc l - 1) image a) (λ a. read_block (suc l - 1) params me image a) params at w) (ap ok (sym s) ∙ t) in
    (omega arith, h, g, s ∙ e)

-- a block: the count, then the statements
pub open_block : (l : ℕ) (params : List ℕ) (me : ℕ) (image : List ℕ) (at : ℕ) → ok (read_block l params me image at) ≡ true
    → (1 ≤ l) × (at < length image) × (block_word (get_or image at 0) ≡ true)
    × (ok (read_statements (payload_of (get_or image at 0)) (λ a. read_statement (l - 1) params me image a) (at + 1)) ≡ true)
    × (read_block l params me image at ≡ read_statements (payload_of (get_or image at 0)) (λ a. read_statement (l - 1) params me image a) (at + 1))
open_block zero params me image at t = absurd (block_none params me image at t)
open_block (suc l) params me image at t =
    let s = block_step (suc l) params me image at (omega arith) in
    let (h, g, e) = on_ok image at block_word
    (λ w. read_statements (payload_of w) (λ a. read_statement (suc l - 1) params me image a) (at + 1)) (ap ok (sym s) ∙ t) in
    (omega arith, h, g, ap ok (sym (s ∙ e)) ∙ t, s ∙ e)

-- ---- the statements of a block, whatever reads one of them

pub open_none : (statement : Reader Statement) (at : ℕ) → read_statements zero statement at ≡ got done at
unfolding read_statements
open_none statement at = refl

pub open_more : (n : ℕ) (statement : Reader Statement) (at : ℕ) → ok (read_statements (suc n) statement at) ≡ true
    → (s : Statement) × (m : ℕ) × (b : Block) × (o : ℕ)
    × (statement at ≡ got s m) × (read_statements n statement m ≡ got b o) × (read_statements (suc n) statement at ≡ got (sequence at s b) o)
unfolding read_statements
open_more n statement at t =
    open_two (read_statements (suc n) statement at) (statement at) (λ m. read_statements n statement m) (λ s b. sequence at s b) refl t

-- ---- a statement by its op

module _ (l : ℕ) (params : List ℕ) (me : ℕ) (image : List ℕ) (at : ℕ) (t : ok (read_statement l params me image at) ≡ true) where
  pub open_assign : op_of (get_or image at 0) ≡ 0
      → (e : Expression) × (n : ℕ) × (read_expression (l - 1) image (at + 1) ≡ got e n)
      × (read_statement l params me image at ≡ got (assign (target_of (get_or image at 0)) e) n)
  open_assign k =
      open_one (read_statement l params me image at) (read_expression (l - 1) image (at + 1)) (λ e. assign (target_of (get_or image at 0)) e)
      ((open_statement l params me image at t).3 ∙ rw k) t

  pub open_store : op_of (get_or image at 0) ≡ 1
      → (i : Expression) × (n : ℕ) × (e : Expression) × (m : ℕ)
      × (read_expression (l - 1) image (at + 1) ≡ got i n) × (read_expression (l - 1) image n ≡ got e m)
      × (read_statement l params me image at ≡ got (store (target_of (get_or image at 0)) i e) m)
  open_store k =
      open_two (read_statement l params me image at) (read_expression (l - 1) image (at + 1)) (λ a. read_expression (l - 1) image a)
      (λ i e. store (target_of (get_or image at 0)) i e) ((open_statement l params me image at t).3 ∙ rw k) t

  pub open_if : op_of (get_or image at 0) ≡ 2
      → (c : Expression) × (n : ℕ) × (x : Block) × (m : ℕ) × (y : Block) × (o : ℕ)
      × (read_expression (l - 1) image (at + 1) ≡ got c n) × (read_block (l - 1) params me image n ≡ got x m)
      × (read_block (l - 1) params me image m ≡ got y o)
      × (read_statement l params me image at ≡ got (conditional c x y) o)
  open_if k =
      open_three (read_statement l params me image at) (read_expression (l - 1) image (at + 1)) (λ a. read_block (l - 1) params me image a)
      (λ a. read_block (l - 1) params me image a) (λ c x y. conditional c x y) ((open_statement l params me image at t).3 ∙ rw k) t

  pub open_for : op_of (get_or image at 0) ≡ 3
      → (f : Expression) × (n : ℕ) × (u : Expression) × (m : ℕ) × (b : Block) × (o : ℕ)
      × (read_expression (l - 1) image (at + 1) ≡ got f n) × (read_expression (l - 1) image n ≡ got u m)
      × (read_block (l - 1) params me image m ≡ got b o)
      × (read_statement l params me image at ≡ got (loop (target_of (get_or image at 0)) f u b) o)
  open_for k =
      open_three (read_statement l params me image at) (read_expression (l - 1) image (at + 1)) (λ a. read_expression (l - 1) image a)
      (λ a. read_block (l - 1) params me image a) (λ f u b. loop (target_of (get_or image at 0)) f u b) ((open_statement l params me image at t).3 ∙ rw k) t

  pub open_return : op_of (get_or image at 0) ≡ 4
      → (e : Expression) × (n : ℕ) × (read_expression (l - 1) image (at + 1) ≡ got e n)
      × (read_statement l params me image at ≡ got (return e) n)
  open_return k =
      open_one (read_statement l params me image at) (read_expression (l - 1) image (at + 1)) (λ e. return e)
      ((open_statement l params me image at t).3 ∙ rw k) t

  pub open_call : op_of (get_or image at 0) ≡ 5
      → (es : List Expression) × (n : ℕ) × (called_of (get_or image at 0) < me)
      × (read_arguments (get_or params (called_of (get_or image at 0)) 0) (λ a. read_expression (l - 1) image a) (at + 1) ≡ got es n)
      × (read_statement l params me image at ≡ got (call (called_of (get_or image at 0)) (result_of (get_or image at 0)) es) n)
  open_call k =
      let (es, n, e, q) = open_one (read_statement l params me image at)
      (read_arguments (get_or params (called_of (get_or image at 0)) 0) (λ a. read_expression (l - 1) image a) (at + 1))
      (λ es. call (called_of (get_or image at 0)) (result_of (get_or image at 0)) es) ((open_statement l params me image at t).3 ∙ rw k) t in
      (es, n, call_limit me (get_or image at 0) (open_statement l params me image at t).2 k, e, q)

  -- the op that is left where no other is
  pub last_op : (op_of (get_or image at 0) ≡ 0 → ⊥) → (op_of (get_or image at 0) ≡ 1 → ⊥) → (op_of (get_or image at 0) ≡ 2 → ⊥)
      → (op_of (get_or image at 0) ≡ 3 → ⊥) → (op_of (get_or image at 0) ≡ 4 → ⊥) → op_of (get_or image at 0) ≡ 5
  last_op = call_op me (get_or image at 0) (open_statement l params me image at t).2

  pub open_last_op : (op_of (get_or image at 0) ≡ 0 → ⊥) → (op_of (get_or image at 0) ≡ 1 → ⊥) → (op_of (get_or image at 0) ≡ 2 → ⊥)
      → (op_of (get_or image at 0) ≡ 3 → ⊥) → (op_of (get_or image at 0) ≡ 4 → ⊥)
      → (es : List Expression) × (n : ℕ) × (called_of (get_or image at 0) < me)
      × (read_arguments (get_or params (called_of (get_or image at 0)) 0) (λ a. read_expression (l - 1) image a) (at + 1) ≡ got es n)
      × (read_statement l params me image at ≡ got (call (called_of (get_or image at 0)) (result_of (get_or image at 0)) es) n)
  open_last_op n0 n1 n2 n3 n4 = open_call (last_op n0 n1 n2 n3 n4)
