-- Trees that are the same up to the places of their words. Their words are the same.
-- Assumes nothing.
use Rattle.std.specs.Prelude.{ℕ, ◌≡◌, refl, length}
use mathlib.Core.List.{List, [], ◌∷◌, flat_map}
use Rattle.definitions.specs.Image.{Expression, constant, boolean, variable, cell, unary, binary, select, Statement}
use Rattle.definitions.specs.Image.{assign, store, conditional, loop, return, call, Block, done, sequence, Procedure}
use Rattle.definitions.specs.Image.{Image}
use Rattle.definitions.specs.Encoding.{expression_words, argument_words, statement_count, statement_words, statements_words}
use Rattle.definitions.specs.Encoding.{block_words, procedure_words, procedures_words, image_words}

pub data LikeExpression : Expression → Expression → Type 0 where
  like_constant : {p q v : ℕ} → LikeExpression (constant p v) (constant q v)
  like_boolean : {p q v : ℕ} → LikeExpression (boolean p v) (boolean q v)
  like_variable : {p q x : ℕ} → LikeExpression (variable p x) (variable q x)
  like_cell : {p q a : ℕ} {i j : Expression} → LikeExpression i j → LikeExpression (cell p a i) (cell q a j)
  like_unary : {p q o : ℕ} {e f : Expression} → LikeExpression e f → LikeExpression (unary p o e) (unary q o f)
  like_binary : {p q o : ℕ} {e f g h : Expression} → LikeExpression e g → LikeExpression f h → LikeExpression (binary p o e f) (binary q o g h)
  like_select :
      {p q : ℕ} {c e f d g h : Expression} → LikeExpression c d → LikeExpression e g → LikeExpression f h
      → LikeExpression (select p c e f) (select q d g h)

pub data LikeAll : List Expression → List Expression → Type 0 where
  like_none : LikeAll [] []
  like_more : {e f : Expression} {es fs : List Expression} → LikeExpression e f → LikeAll es fs → LikeAll (e ∷ es) (f ∷ fs)

mutual
  pub data LikeStatement : Statement → Statement → Type 0 where
    like_assign : {x : ℕ} {e f : Expression} → LikeExpression e f → LikeStatement (assign x e) (assign x f)
    like_store : {a : ℕ} {i e j f : Expression} → LikeExpression i j → LikeExpression e f → LikeStatement (store a i e) (store a j f)
    like_conditional :
        {c d : Expression} {a b g h : Block} → LikeExpression c d → LikeBlock a g → LikeBlock b h
        → LikeStatement (conditional c a b) (conditional d g h)
    like_loop :
        {x : ℕ} {f t g u : Expression} {b c : Block} → LikeExpression f g → LikeExpression t u → LikeBlock b c
        → LikeStatement (loop x f t b) (loop x g u c)
    like_return : {e f : Expression} → LikeExpression e f → LikeStatement (return e) (return f)
    like_call : {f x : ℕ} {es gs : List Expression} → LikeAll es gs → LikeStatement (call f x es) (call f x gs)

  pub data LikeBlock : Block → Block → Type 0 where
    like_done : LikeBlock done done
    like_step : {p q : ℕ} {s t : Statement} {b c : Block} → LikeStatement s t → LikeBlock b c → LikeBlock (sequence p s b) (sequence q t c)

pub record LikeProcedure (p q : Procedure) : Type 0 where
  pub modes : p.mode ≡ q.mode
  pub parameters : p.parameters ≡ q.parameters
  pub results : p.result ≡ q.result
  pub types : p.types ≡ q.types
  pub bodies : LikeBlock p.body q.body

pub data LikeProcedures : List Procedure → List Procedure → Type 0 where
  like_empty : LikeProcedures [] []
  like_next : {p q : Procedure} {ps qs : List Procedure} → LikeProcedure p q → LikeProcedures ps qs → LikeProcedures (p ∷ ps) (q ∷ qs)

pub record LikeImage (i j : Image) : Type 0 where
  pub forms : i.form ≡ j.form
  pub arrays : i.arrays ≡ j.arrays
  pub procedures : LikeProcedures i.procedures j.procedures

-- Words do not show places.

pub like_expression_words : {e f : Expression} → LikeExpression e f → expression_words e ≡ expression_words f
unfolding expression_words
like_expression_words like_constant = refl
like_expression_words like_boolean = refl
like_expression_words like_variable = refl
like_expression_words (like_cell i) = rw (like_expression_words i)
like_expression_words (like_unary e) = rw (like_expression_words e)
like_expression_words (like_binary e f) = rw (like_expression_words e, like_expression_words f)
like_expression_words (like_select c e f) = rw (like_expression_words c, like_expression_words e, like_expression_words f)

pub like_argument_words : {es fs : List Expression} → LikeAll es fs → argument_words es ≡ argument_words fs
unfolding argument_words flat_map
like_argument_words like_none = refl
like_argument_words (like_more e es) = rw (like_expression_words e, like_argument_words es)

pub like_length : {es fs : List Expression} → LikeAll es fs → length es ≡ length fs
like_length like_none = refl
like_length (like_more e es) = rw (like_length es)

pub like_count : {b c : Block} → LikeBlock b c → statement_count b ≡ statement_count c
unfolding statement_count
like_count like_done = refl
like_count (like_step s b) = rw (like_count b)

mutual
  unfolding statement_words statements_words

  pub like_statement_words : {s t : Statement} → LikeStatement s t → statement_words s ≡ statement_words t
  like_statement_words (like_assign e) = rw (like_expression_words e)
  like_statement_words (like_store i e) = rw (like_expression_words i, like_expression_words e)
  like_statement_words (like_conditional c a b) =
      rw (like_expression_words c, like_count a, like_statements_words a, like_count b, like_statements_words b)
  like_statement_words (like_loop f t b) = rw (like_expression_words f, like_expression_words t, like_count b, like_statements_words b)
  like_statement_words (like_return e) = rw (like_expression_words e)
  like_statement_words (like_call es) = rw (like_argument_words es)

  pub like_statements_words : {b c : Block} → LikeBlock b c → statements_words b ≡ statements_words c
  like_statements_words like_done = refl
  like_statements_words (like_step s b) = rw (like_statement_words s, like_statements_words b)

pub like_block_words : {b c : Block} → LikeBlock b c → block_words b ≡ block_words c
unfolding block_words
like_block_words b = rw (like_count b, like_statements_words b)

pub like_procedure_words : (p q : Procedure) → LikeProcedure p q → procedure_words p ≡ procedure_words q
unfolding procedure_words
like_procedure_words p q l = rw (l.modes, l.parameters, l.results, l.types, like_block_words l.bodies)

pub like_procedures_words : {ps qs : List Procedure} → LikeProcedures ps qs → procedures_words ps ≡ procedures_words qs
unfolding procedures_words flat_map
like_procedures_words like_empty = refl
like_procedures_words (like_next {p} {q} l ls) = rw (like_procedure_words p q l, like_procedures_words ls)

pub like_procedure_count : {ps qs : List Procedure} → LikeProcedures ps qs → length ps ≡ length qs
like_procedure_count like_empty = refl
like_procedure_count (like_next l ls) = rw (like_procedure_count ls)

pub like_image_words : (i j : Image) → LikeImage i j → image_words i ≡ image_words j
unfolding image_words
like_image_words i j l = rw (l.forms, l.arrays, like_procedure_count l.procedures, like_procedures_words l.procedures)
