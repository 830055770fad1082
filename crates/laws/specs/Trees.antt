-- Trees all of whose places are as R says. Assumes nothing.
use Rattle.std.specs.Prelude.{List, [], ◌∷◌, ℕ, zero, suc}
use Rattle.definitions.specs.Image.{Expression, constant, boolean, variable, cell, unary, binary, select, place_of}
use Rattle.definitions.specs.Image.{Statement, assign, store, conditional, loop, return, call, Block, done, sequence}
use Rattle.definitions.specs.Image.{Procedure, procedure_at}

module _ (R : ℕ → Type 0) where
  pub data ExpressionPlaces : Expression → Type 0 where
    at_constant : {p v : ℕ} → R p → ExpressionPlaces (constant p v)
    at_boolean : {p v : ℕ} → R p → ExpressionPlaces (boolean p v)
    at_variable : {p x : ℕ} → R p → ExpressionPlaces (variable p x)
    at_cell : {p a : ℕ} {i : Expression} → R p → ExpressionPlaces i → ExpressionPlaces (cell p a i)
    at_unary : {p o : ℕ} {e : Expression} → R p → ExpressionPlaces e → ExpressionPlaces (unary p o e)
    at_binary : {p o : ℕ} {e f : Expression} → R p → ExpressionPlaces e → ExpressionPlaces f → ExpressionPlaces (binary p o e f)
    at_select : {p : ℕ} {c e f : Expression} → R p → ExpressionPlaces c → ExpressionPlaces e → ExpressionPlaces f
        → ExpressionPlaces (select p c e f)

  pub data ExpressionsPlaces : List Expression → Type 0 where
    no_expression : ExpressionsPlaces []
    and_expression : {e : Expression} {es : List Expression} → ExpressionPlaces e → ExpressionsPlaces es → ExpressionsPlaces (e ∷ es)

  mutual
    -- a statement holds no place of its own
    pub data StatementPlaces : Statement → Type 0 where
      in_assign : {x : ℕ} {e : Expression} → ExpressionPlaces e → StatementPlaces (assign x e)
      in_store : {a : ℕ} {i e : Expression} → ExpressionPlaces i → ExpressionPlaces e → StatementPlaces (store a i e)
      in_conditional : {c : Expression} {a b : Block} → ExpressionPlaces c → BlockPlaces a → BlockPlaces b
          → StatementPlaces (conditional c a b)
      in_loop : {x : ℕ} {f t : Expression} {b : Block} → ExpressionPlaces f → ExpressionPlaces t → BlockPlaces b
          → StatementPlaces (loop x f t b)
      in_return : {e : Expression} → ExpressionPlaces e → StatementPlaces (return e)
      in_call : {f x : ℕ} {es : List Expression} → ExpressionsPlaces es → StatementPlaces (call f x es)

    pub data BlockPlaces : Block → Type 0 where
      in_done : BlockPlaces done
      in_sequence : {p : ℕ} {s : Statement} {b : Block} → R p → StatementPlaces s → BlockPlaces b → BlockPlaces (sequence p s b)

  pub data ProceduresPlaces : List Procedure → Type 0 where
    no_procedure_lem : ProceduresPlaces []
    and_procedure : {p : Procedure} {ps : List Procedure} → BlockPlaces p.body → ProceduresPlaces ps → ProceduresPlaces (p ∷ ps)

module _ {R : ℕ → Type 0} where
  -- an expression's own place is one of its places
  pub own_place : {e : Expression} → ExpressionPlaces R e → R (place_of e)
  unfolding place_of
  own_place (at_constant h) = h
  own_place (at_boolean h) = h
  own_place (at_variable h) = h
  own_place (at_cell h r) = h
  own_place (at_unary h r) = h
  own_place (at_binary h r s) = h
  own_place (at_select h r s t) = h

  -- the body of a procedure by its number; one that no image has has no statement
  pub body_places_lem : {ps : List Procedure} → ProceduresPlaces R ps → (f : ℕ) → BlockPlaces R (procedure_at ps f).body
  body_places_lem no_procedure_lem f = in_done
  body_places_lem (and_procedure r s) zero = r
  body_places_lem (and_procedure r s) (suc f) = body_places_lem s f

-- ---- where R says nothing of a place

abbrev pub Anywhere : ℕ → Type 0
Anywhere p = Unit {0}

pub anywhere : (e : Expression) → ExpressionPlaces Anywhere e
anywhere (constant p v) = at_constant tt
anywhere (boolean p v) = at_boolean tt
anywhere (variable p x) = at_variable tt
anywhere (cell p a i) = at_cell tt (anywhere i)
anywhere (unary p o e) = at_unary tt (anywhere e)
anywhere (binary p o e f) = at_binary tt (anywhere e) (anywhere f)
anywhere (select p c e f) = at_select tt (anywhere c) (anywhere e) (anywhere f)

anywhere_all : (es : List Expression) → ExpressionsPlaces Anywhere es
anywhere_all [] = no_expression
anywhere_all (e ∷ es) = and_expression (anywhere e) (anywhere_all es)

mutual
  anywhere_statement : (s : Statement) → StatementPlaces Anywhere s
  anywhere_statement (assign x e) = in_assign (anywhere e)
  anywhere_statement (store a i e) = in_store (anywhere i) (anywhere e)
  anywhere_statement (conditional c a b) = in_conditional (anywhere c) (anywhere_block a) (anywhere_block b)
  anywhere_statement (loop x f t b) = in_loop (anywhere f) (anywhere t) (anywhere_block b)
  anywhere_statement (return e) = in_return (anywhere e)
  anywhere_statement (call f x es) = in_call (anywhere_all es)

  anywhere_block : (b : Block) → BlockPlaces Anywhere b
  anywhere_block done = in_done
  anywhere_block (sequence p s b) = in_sequence tt (anywhere_statement s) (anywhere_block b)

pub anywhere_procedures : (ps : List Procedure) → ProceduresPlaces Anywhere ps
anywhere_procedures [] = no_procedure_lem
anywhere_procedures (p ∷ ps) = and_procedure (anywhere_block p.body) (anywhere_procedures ps)
