-- Trees without their places: two trees of one shape that stand at different words become the same tree. Assumes nothing.
use Rattle.std.specs.Prelude.{◌≡◌, refl, List, [], ◌∷◌, ℕ, zero, suc, length}
use Rattle.std.proofs.Common.{ap}
use Rattle.definitions.specs.Image.{Expression, constant, boolean, variable, cell, unary, binary, select, Statement}
use Rattle.definitions.specs.Image.{assign, store, conditional, loop, return, call, Block, done, sequence, Procedure}
use Rattle.definitions.specs.Image.{Image, procedure_at}

unfoldable pub erased_expression : Expression → Expression
erased_expression (constant p v) = constant 0 v
erased_expression (boolean p v) = boolean 0 v
erased_expression (variable p x) = variable 0 x
erased_expression (cell p a i) = cell 0 a (erased_expression i)
erased_expression (unary p o e) = unary 0 o (erased_expression e)
erased_expression (binary p o e f) = binary 0 o (erased_expression e) (erased_expression f)
erased_expression (select p c e f) = select 0 (erased_expression c) (erased_expression e) (erased_expression f)

unfoldable pub erased_expressions : List Expression → List Expression
erased_expressions [] = []
erased_expressions (e ∷ es) = erased_expression e ∷ erased_expressions es

unfoldable mutual
  pub erased_statement : Statement → Statement
  erased_statement (assign x e) = assign x (erased_expression e)
  erased_statement (store a i e) = store a (erased_expression i) (erased_expression e)
  erased_statement (conditional c a b) = conditional (erased_expression c) (erased_block a) (erased_block b)
  erased_statement (loop x f t b) = loop x (erased_expression f) (erased_expression t) (erased_block b)
  erased_statement (return e) = return (erased_expression e)
  erased_statement (call f x es) = call f x (erased_expressions es)

  pub erased_block : Block → Block
  erased_block done = done
  erased_block (sequence l s b) = sequence 0 (erased_statement s) (erased_block b)

unfoldable pub erased_procedure : Procedure → Procedure
erased_procedure p = record { place = 0; mode = p.mode; parameters = p.parameters; result = p.result; types = p.types; body = erased_block p.body }

unfoldable pub erased_procedures : List Procedure → List Procedure
erased_procedures [] = []
erased_procedures (p ∷ ps) = erased_procedure p ∷ erased_procedures ps

unfoldable pub erased_image : Image → Image
erased_image image = record { form = image.form; arrays = image.arrays; procedures = erased_procedures image.procedures }

pub erased_at : (ps : List Procedure) (n : ℕ) → procedure_at (erased_procedures ps) n ≡ erased_procedure (procedure_at ps n)
unfolding erased_procedures erased_procedure erased_block
erased_at [] n = refl
erased_at (p ∷ ps) zero = refl
erased_at (p ∷ ps) (suc n) = erased_at ps n

pub erased_count : (ps : List Procedure) → length (erased_procedures ps) ≡ length ps
unfolding erased_procedures
erased_count [] = refl
erased_count (p ∷ ps) = ap suc (erased_count ps)
