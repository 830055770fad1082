-- Document 02, wish 11: "answer a bound from the image alone: statements plus passes, the larger arm of each if, callees
-- included". In whole numbers: the limit is asked of the bound alone (Requests, `bounded`).
use Rattle.std.specs.Prelude.{ℕ, zero, suc, ◌+◌, ◌*◌, ◌-◌, max, Bool, true, false, ◌&&◌, ◌||◌, List, [], ◌∷◌, ◌++◌, eqb}
use Rattle.definitions.specs.Choice.{pick}
use Rattle.definitions.specs.Image.{Expression, Statement, assign, store, conditional, loop, return, call, Block}
use Rattle.definitions.specs.Image.{done, sequence, Procedure, procedure_at}
use Rattle.definitions.specs.Labels.{is_constant, constant_value}

-- The cost of a statement and of a block, over the costs of procedures: a statement 1; a for adds, for each pass, a step
-- and the cost of its block, an if "the larger arm", a call its callee. "a for passes from up to, not including, to": no
-- pass where from is not below to. What follows a return counts.
module _ (callee : ℕ → ℕ) where
  unfoldable mutual
    pub statement_cost : Statement → ℕ
    statement_cost (assign x e) = 1
    statement_cost (store a i e) = 1
    statement_cost (conditional c a b) = 1 + max (block_cost a) (block_cost b)
    statement_cost (loop x f t b) = 1 + (constant_value t - constant_value f) * (1 + block_cost b)
    statement_cost (return e) = 1
    statement_cost (call f x es) = 1 + callee f

    pub block_cost : Block → ℕ
    block_cost done = 0
    block_cost (sequence p s b) = statement_cost s + block_cost b

-- whether a statement or block has a call, at any depth, of a procedure that passes a test
module _ (test : ℕ → Bool) where
  unfoldable mutual
    pub statement_calls : Statement → Bool
    statement_calls (assign x e) = false
    statement_calls (store a i e) = false
    statement_calls (conditional c a b) = block_calls a || block_calls b
    statement_calls (loop x f t b) = block_calls b
    statement_calls (return e) = false
    statement_calls (call f x es) = test f

    pub block_calls : Block → Bool
    block_calls done = false
    block_calls (sequence p s b) = statement_calls s || block_calls b

module _ (ps : List Procedure) where
  -- The cost of procedure f, one of the first n: "only a lower-numbered procedure" is called.
  unfoldable pub procedure_cost : ℕ → ℕ → ℕ
  procedure_cost zero f = 0
  procedure_cost (suc n) f =
      pick (eqb f n) (block_cost (λ g. procedure_cost n g) (procedure_at ps n).body) (procedure_cost n f)

  -- whether procedure f, one of the first n, is g or calls it, "directly or through others"
  unfoldable pub reaches : ℕ → ℕ → ℕ → Bool
  reaches zero f g = false
  reaches (suc n) f g =
      pick (eqb f n) (eqb g n || block_calls (λ h. reaches n h g) (procedure_at ps n).body) (reaches n f g)

-- both bounds of a for are constants; one that is not is enough for 32
abbrev pub constant_bounds : Expression → Expression → Bool
constant_bounds f t = is_constant f && is_constant t

-- the places of the fors "whose bounds are not constants", in order
unfoldable mutual
  pub statement_variable_fors : ℕ → Statement → List ℕ
  statement_variable_fors place (assign x e) = []
  statement_variable_fors place (store a i e) = []
  statement_variable_fors place (conditional c a b) = block_variable_fors a ++ block_variable_fors b
  statement_variable_fors place (loop x f t b) = pick (constant_bounds f t) [] (place ∷ []) ++ block_variable_fors b
  statement_variable_fors place (return e) = []
  statement_variable_fors place (call f x es) = []

  pub block_variable_fors : Block → List ℕ
  block_variable_fors done = []
  block_variable_fors (sequence p s b) = statement_variable_fors p s ++ block_variable_fors b

abbrev pub variable_fors_in : List Procedure → ℕ → List ℕ
variable_fors_in ps f = block_variable_fors (procedure_at ps f).body

-- those of the first m procedures that f calls, directly or through others, "by number"
unfoldable pub callees_variable_fors : List Procedure → ℕ → ℕ → List ℕ
callees_variable_fors ps f zero = []
callees_variable_fors ps f (suc m) =
    callees_variable_fors ps f m ++ pick (reaches ps (suc f) f m) (variable_fors_in ps m) []

-- "the procedure first, then all callees, direct or not, by number"
abbrev pub variable_fors : List Procedure → ℕ → List ℕ
variable_fors ps f = variable_fors_in ps f ++ callees_variable_fors ps f f

-- whether no if and no return stands in a statement or block, at any depth
unfoldable mutual
  pub plain_statement : Statement → Bool
  plain_statement (assign x e) = true
  plain_statement (store a i e) = true
  plain_statement (conditional c a b) = false
  plain_statement (loop x f t b) = plain_block b
  plain_statement (return e) = false
  plain_statement (call f x es) = true

  pub plain_block : Block → Bool
  plain_block done = true
  plain_block (sequence p s b) = plain_statement s && plain_block b

-- whether a statement is a return
unfoldable pub is_return : Statement → Bool
is_return (assign x e) = false
is_return (store a i e) = false
is_return (conditional c a b) = false
is_return (loop x f t b) = false
is_return (return e) = true
is_return (call f x es) = false

-- "Where neither the procedure nor any it calls .. has an if, or a return other than as the body's last statement": of
-- one procedure's body
unfoldable pub straight_body : Block → Bool
straight_body done = true
straight_body (sequence p s done) = plain_statement s || is_return s
straight_body (sequence p s (sequence q r b)) = plain_statement s && straight_body (sequence q r b)
