-- The words for one thing in the two halves of property 2, "read back" and "preservation", brought together: trees that are the same up to
-- their places are the same once places are erased, and a source that reading gave has one value per parameter at each call.
-- Assumes nothing.
use Rattle.std.specs.Prelude.{ℕ, Bool, true, ◌&&◌, List, ◌≡◌, refl, length}
use Rattle.std.proofs.Common.{arith, le-leb, eq-eqb}
use Rattle.definitions.specs.Image.{Expression, Statement, Block, Procedure, Image, procedure_at}
use Rattle.readback.specs.Like.{LikeExpression, like_constant, like_boolean, like_variable, like_cell, like_unary}
use Rattle.readback.specs.Like.{like_binary, like_select, LikeAll, like_none, like_more, LikeStatement, like_assign}
use Rattle.readback.specs.Like.{like_store, like_conditional, like_loop, like_return, like_call, LikeBlock, like_done}
use Rattle.readback.specs.Like.{like_step, LikeProcedure, LikeProcedures, like_empty, like_next, LikeImage}
use Rattle.statements.specs.Limits.{FitsStatement, fit_assign, fit_store, fit_conditional, fit_loop, fit_return, fit_call}
use Rattle.statements.specs.Limits.{FitsBlock, fit_block, FitsStatements, fit_done, fit_sequence, FitsProcedure, FitsProcedures}
use Rattle.statements.specs.Limits.{no_procedures, more_procedures, arity_of, FitsImage}
use Rattle.preservation.specs.Erasure.{erased_expression, erased_expressions, erased_statement, erased_block}
use Rattle.preservation.specs.Erasure.{erased_procedure, erased_procedures, erased_image}
use Rattle.preservation.specs.WellRead.{counted_statement, counted_block, well_read_procedure, well_read_procedures, well_read}

-- ---- Trees that are the same up to their places are the same without them

same_expression : {e f : Expression} → LikeExpression e f → erased_expression e ≡ erased_expression f
unfolding erased_expression
same_expression like_constant = refl
same_expression like_boolean = refl
same_expression like_variable = refl
same_expression (like_cell i) = rw (same_expression i)
same_expression (like_unary e) = rw (same_expression e)
same_expression (like_binary e f) = rw (same_expression e, same_expression f)
same_expression (like_select c e f) = rw (same_expression c, same_expression e, same_expression f)

same_expressions : {es fs : List Expression} → LikeAll es fs → erased_expressions es ≡ erased_expressions fs
unfolding erased_expressions
same_expressions like_none = refl
same_expressions (like_more e es) = rw (same_expression e, same_expressions es)

mutual
  unfolding erased_statement erased_block

  same_statement : {s t : Statement} → LikeStatement s t → erased_statement s ≡ erased_statement t
  same_statement (like_assign e) = rw (same_expression e)
  same_statement (like_store i e) = rw (same_expression i, same_expression e)
  same_statement (like_conditional c a b) = rw (same_expression c, same_block a, same_block b)
  same_statement (like_loop f t b) = rw (same_expression f, same_expression t, same_block b)
  same_statement (like_return e) = rw (same_expression e)
  same_statement (like_call es) = rw (same_expressions es)

  same_block : {b c : Block} → LikeBlock b c → erased_block b ≡ erased_block c
  same_block like_done = refl
  same_block (like_step s b) = rw (same_statement s, same_block b)

same_procedure : (p q : Procedure) → LikeProcedure p q → erased_procedure p ≡ erased_procedure q
unfolding erased_procedure
same_procedure p q l = rw (l.modes, l.parameters, l.results, l.types, same_block l.bodies)

same_procedures : {ps qs : List Procedure} → LikeProcedures ps qs → erased_procedures ps ≡ erased_procedures qs
unfolding erased_procedures
same_procedures like_empty = refl
same_procedures (like_next {p} {q} l ls) = rw (same_procedure p q l, same_procedures ls)

pub same_image : (i j : Image) → LikeImage i j → erased_image i ≡ erased_image j
unfolding erased_image
same_image i j l = rw (l.forms, l.arrays, same_procedures l.procedures)

-- ---- What reading gave has one value per parameter at each call

both : (a b : Bool) → a ≡ true → b ≡ true → (a && b) ≡ true
both a b e f = rw (e, f)

module _ (ps : List Procedure) (me : ℕ) where
  mutual
    unfolding counted_statement counted_block

    counted_statement_lem : {l : ℕ} {s : Statement} → FitsStatement (arity_of ps) me l s → counted_statement ps s ≡ true
    counted_statement_lem (fit_assign x e) = refl
    counted_statement_lem (fit_store a i e) = refl
    counted_statement_lem (fit_conditional c a b) = rw (counted_block_lem a, counted_block_lem b)
    counted_statement_lem (fit_loop x f t b) = counted_block_lem b
    counted_statement_lem (fit_return e) = refl
    counted_statement_lem (fit_call {f = f} {es = es} h j e a) = eq-eqb (length es) (procedure_at ps f).parameters e

    counted_block_lem : {l : ℕ} {b : Block} → FitsBlock (arity_of ps) me l b → counted_block ps b ≡ true
    counted_block_lem (fit_block b) = counted_statements b

    counted_statements : {l : ℕ} {b : Block} → FitsStatements (arity_of ps) me l b → counted_block ps b ≡ true
    counted_statements fit_done = refl
    counted_statements (fit_sequence s b) = rw (counted_statement_lem s, counted_statements b)

well_procedure : (ps : List Procedure) (me form : ℕ) → form ≡ 0 → (p : Procedure) → FitsProcedure form (arity_of ps) me p → well_read_procedure ps p ≡ true
unfolding well_read_procedure
well_procedure ps me form e p f =
    let few = f.few_parameters in
    both _ _ (le-leb p.parameters 8 (omega arith))
    (both _ _ (le-leb p.parameters (length p.types) f.parameters_typed) (counted_block_lem ps me f.body_fits))

well_procedures : (ps : List Procedure) (form : ℕ) → form ≡ 0 → {me : ℕ} {rest : List Procedure} → FitsProcedures form (arity_of ps) me rest → well_read_procedures ps rest ≡ true
unfolding well_read_procedures
well_procedures ps form e no_procedures = refl
well_procedures ps form e (more_procedures {me} {p} a f fs) = both _ _ (well_procedure ps me form e p f) (well_procedures ps form e fs)

pub well_source : (i : Image) → FitsImage i → i.form ≡ 0 → well_read i ≡ true
unfolding well_read
well_source i f e = well_procedures i.procedures i.form e f.procedures_fit
