-- The parts of a statement or a block that was read were read too, each where the one before it ends; op is the
-- statement's. Assumes nothing.
use Rattle.std.specs.Prelude.{ℕ, zero, suc, ◌+◌, ◌-◌, ◌<◌, ◌≤◌, true, List, [], ◌∷◌, ◌≡◌, get_or}
use Rattle.std.proofs.Common.{ap, ◌∙◌, arith}
use Rattle.definitions.specs.Image.{payload_of, op_of, called_of, Expression, Statement, Block, done, sequence}
use Rattle.definitions.specs.Reading.{got, read_expression, read_statement, read_block}
use Rattle.laws.specs.Parses.{ok, end_of, ok_of, end_of_lem}
use Rattle.laws.specs.ExpressionInversion.{open_no_argument, open_argument}
use Rattle.laws.specs.StatementInversion.{open_statement, open_block, open_none, open_more, open_assign, open_store}
use Rattle.laws.specs.StatementInversion.{open_if, open_for, open_return, open_call, last_op}
use Rattle.image_words.specs.Read.{ExpressionRead, PairRead, StatementRead, BlockRead, arguments_at, statements_at}
use Rattle.image_words.specs.Parts.{told, not_told, expression_got, pair_got}

-- a number that is not above 5
below : (n : ℕ) → (6 ≤ n → ⊥) → n < 6
below n h = omega arith

-- ---- the values of a call that are left

pub no_argument : (l : ℕ) (image : List ℕ) (at : ℕ) → arguments_at 0 l image at ≡ got [] at
unfolding arguments_at
no_argument l image at = open_no_argument _ at

pub first_argument : (n l : ℕ) (image : List ℕ) (at : ℕ) → ok (arguments_at n l image at) ≡ true → 0 < n
    → (e : Expression) × (m : ℕ) × (es : List Expression) × (o : ℕ)
    × (read_expression l image at ≡ got e m) × (arguments_at (n - 1) l image m ≡ got es o) × (arguments_at n l image at ≡ got (e ∷ es) o)
unfolding arguments_at
first_argument zero l image at t h = absurd (omega arith)
first_argument (suc n) l image at t h = let e : suc n - 1 ≡ n = omega arith in rw e (open_argument n (λ a. read_expression l image a) at t)

pub read_argument : (n l : ℕ) (image : List ℕ) (at : ℕ) → ok (arguments_at n l image at) ≡ true → 0 < n → ExpressionRead l image at
read_argument n l image at t h = let (e, m, es, o, q, r, s) = first_argument n l image at t h in expression_got l image at e m q

pub read_arguments_lem : (n l : ℕ) (image : List ℕ) (at p : ℕ) → ok (arguments_at n l image at) ≡ true → 0 < n
    → p ≡ end_of (read_expression l image at) → ok (arguments_at (n - 1) l image p) ≡ true
read_arguments_lem n l image at p t h e =
    let (f, m, es, o, q, r, s) = first_argument n l image at t h in rw (e ∙ end_of_lem _ f m q) (ok_of _ es o r)

-- ---- the statements of a block that are left

pub no_statement : (l : ℕ) (params : List ℕ) (me : ℕ) (image : List ℕ) (at : ℕ) → statements_at 0 l params me image at ≡ got done at
unfolding statements_at
no_statement l params me image at = open_none _ at

pub first_statement : (n l : ℕ) (params : List ℕ) (me : ℕ) (image : List ℕ) (at : ℕ) → ok (statements_at n l params me image at) ≡ true → 0 < n
    → (s : Statement) × (m : ℕ) × (b : Block) × (o : ℕ)
    × (read_statement l params me image at ≡ got s m) × (statements_at (n - 1) l params me image m ≡ got b o)
    × (statements_at n l params me image at ≡ got (sequence at s b) o)
unfolding statements_at
first_statement zero l params me image at t h = absurd (omega arith)
first_statement (suc n) l params me image at t h =
    let e : suc n - 1 ≡ n = omega arith in rw e (open_more n (λ a. read_statement l params me image a) at t)

pub statement_got : (l : ℕ) (params : List ℕ) (me : ℕ) (image : List ℕ) (at : ℕ) (s : Statement) (n : ℕ)
    → read_statement l params me image at ≡ got s n → StatementRead l params me image at
statement_got l params me image at s n q =
    let t = ok_of _ s n q in
    let (v, w, x, y) = open_statement l params me image at t in
    record { deep = v; within = w; read = t }

pub read_statement_lem : (n l : ℕ) (params : List ℕ) (me : ℕ) (image : List ℕ) (at : ℕ) → ok (statements_at n l params me image at) ≡ true → 0 < n
    → StatementRead l params me image at
read_statement_lem n l params me image at t h =
    let (s, m, b, o, q, r, u) = first_statement n l params me image at t h in statement_got l params me image at s m q

pub read_statements_lem : (n l : ℕ) (params : List ℕ) (me : ℕ) (image : List ℕ) (at p : ℕ) → ok (statements_at n l params me image at) ≡ true → 0 < n
    → p ≡ end_of (read_statement l params me image at) → ok (statements_at (n - 1) l params me image p) ≡ true
read_statements_lem n l params me image at p t h e =
    let (s, m, b, o, q, r, u) = first_statement n l params me image at t h in rw (e ∙ end_of_lem _ s m q) (ok_of _ b o r)

pub block_got : (l : ℕ) (params : List ℕ) (me : ℕ) (image : List ℕ) (at : ℕ) (b : Block) (n : ℕ) → read_block l params me image at ≡ got b n
    → BlockRead l params me image at
block_got l params me image at b n q =
    let t = ok_of _ b n q in let (v, w, x, y, z) = open_block l params me image at t in record { deep = v; within = w; read = t }

-- the statements of a block begin behind its word
pub block_statements : (l : ℕ) (params : List ℕ) (me : ℕ) (image : List ℕ) (at : ℕ) → ok (read_block l params me image at) ≡ true
    → (ok (statements_at (payload_of (get_or image at 0)) (l - 1) params me image (at + 1)) ≡ true)
    × (read_block l params me image at ≡ statements_at (payload_of (get_or image at 0)) (l - 1) params me image (at + 1))
unfolding statements_at
block_statements l params me image at t = let (v, w, x, y, z) = open_block l params me image at t in (y, z)

-- ---- a statement by its op

module _ (l : ℕ) (params : List ℕ) (me : ℕ) (image : List ℕ) (at : ℕ) (t : ok (read_statement l params me image at) ≡ true)
    (op : ℕ) (ho : op ≡ op_of (get_or image at 0)) where
  pub read_assign : op ≡ 0 → ExpressionRead (l - 1) image (at + 1)
  read_assign h = let (e, n, q, r) = open_assign l params me image at t (told ho h) in expression_got (l - 1) image (at + 1) e n q

  pub read_store : op ≡ 1 → PairRead (l - 1) image (at + 1)
  read_store h =
      let (e, n, f, m, q, r, s) = open_store l params me image at t (told ho h) in pair_got (l - 1) image (at + 1) e f n m q r

  pub read_return : op ≡ 4 → ExpressionRead (l - 1) image (at + 1)
  read_return h = let (e, n, q, r) = open_return l params me image at t (told ho h) in expression_got (l - 1) image (at + 1) e n q

  pub read_if : op ≡ 2 → ExpressionRead (l - 1) image (at + 1)
  read_if h =
      let (c, n, x, m, y, o, q, r, s, u) = open_if l params me image at t (told ho h) in expression_got (l - 1) image (at + 1) c n q

  pub read_then : op ≡ 2 → (p : ℕ) → p ≡ end_of (read_expression (l - 1) image (at + 1)) → BlockRead (l - 1) params me image p
  read_then h p e =
      let (c, n, x, m, y, o, q, r, s, u) = open_if l params me image at t (told ho h) in
      rw (e ∙ end_of_lem _ c n q) (block_got (l - 1) params me image n x m r)

  pub read_else : op ≡ 2 → (p : ℕ) → p ≡ end_of (read_expression (l - 1) image (at + 1))
      → (v : ℕ) → v ≡ end_of (read_block (l - 1) params me image p) → BlockRead (l - 1) params me image v
  read_else h p e v f =
      let (c, n, x, m, y, o, q, r, s, u) = open_if l params me image at t (told ho h) in
      rw (f ∙ ap (λ z. end_of (read_block (l - 1) params me image z)) (e ∙ end_of_lem _ c n q) ∙ end_of_lem _ x m r)
      (block_got (l - 1) params me image m y o s)

  pub read_bounds : op ≡ 3 → PairRead (l - 1) image (at + 1)
  read_bounds h =
      let (e, n, f, m, b, o, q, r, s, u) = open_for l params me image at t (told ho h) in pair_got (l - 1) image (at + 1) e f n m q r

  pub read_body : op ≡ 3 → (p : ℕ)
      → p ≡ end_of (read_expression (l - 1) image (end_of (read_expression (l - 1) image (at + 1)))) → BlockRead (l - 1) params me image p
  read_body h p e =
      let (f, n, g, m, b, o, q, r, s, u) = open_for l params me image at t (told ho h) in
      rw (e ∙ ap (λ z. end_of (read_expression (l - 1) image z)) (end_of_lem _ f n q) ∙ end_of_lem _ g m r)
      (block_got (l - 1) params me image m b o s)

  pub read_called : op ≡ 5 → called_of (get_or image at 0) < me
  read_called h = (open_call l params me image at t (told ho h)).2

  pub read_call : op ≡ 5 → ok (arguments_at (get_or params (called_of (get_or image at 0)) 0) (l - 1) image (at + 1)) ≡ true
  unfolding arguments_at
  read_call h = let (es, n, b, q, r) = open_call l params me image at t (told ho h) in ok_of _ es n q

  -- an op that is none of the others
  pub is_call : (op ≡ 0 → ⊥) → (op ≡ 1 → ⊥) → (op ≡ 2 → ⊥) → (op ≡ 3 → ⊥) → (op ≡ 4 → ⊥) → op ≡ 5
  is_call n0 n1 n2 n3 n4 =
      ho ∙ last_op l params me image at t (not_told ho n0) (not_told ho n1) (not_told ho n2) (not_told ho n3) (not_told ho n4)

-- the word where a statement was read has one of the six ops
pub op_there : (l : ℕ) (params : List ℕ) (me : ℕ) (image : List ℕ) (at w : ℕ) → StatementRead l params me image at → w ≡ get_or image at 0 → op_of w < 6
op_there l params me image at w r h =
    rw h (below (op_of (get_or image at 0)) (λ x. let e = last_op l params me image at r.read (λ y. omega arith) (λ y. omega arith) (λ y. omega arith) (λ y. omega arith) (λ y. omega arith) in omega arith))
