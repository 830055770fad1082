-- What reading gives of an image's tree: each call has one value per parameter of the procedure that it names, and a procedure has at most
-- 8 parameters and a type word for each. Assumes nothing.
use Rattle.std.specs.Prelude.{Bool, true, ◌&&◌, List, [], ◌∷◌, leb, eqb, length}
use Rattle.definitions.specs.Image.{Statement, assign, store, conditional, loop, return, call, Block, done, sequence}
use Rattle.definitions.specs.Image.{Procedure, Image, procedure_at}

unfoldable mutual
  pub counted_statement : List Procedure → Statement → Bool
  counted_statement ps (assign x e) = true
  counted_statement ps (store a i e) = true
  counted_statement ps (conditional c a b) = counted_block ps a && counted_block ps b
  counted_statement ps (loop x f t b) = counted_block ps b
  counted_statement ps (return e) = true
  counted_statement ps (call f x es) = eqb (length es) (procedure_at ps f).parameters

  pub counted_block : List Procedure → Block → Bool
  counted_block ps done = true
  counted_block ps (sequence l s b) = counted_statement ps s && counted_block ps b

unfoldable pub well_read_procedure : List Procedure → Procedure → Bool
well_read_procedure ps p = leb p.parameters 8 && (leb p.parameters (length p.types) && counted_block ps p.body)

unfoldable pub well_read_procedures : List Procedure → List Procedure → Bool
well_read_procedures ps [] = true
well_read_procedures ps (p ∷ rest) = well_read_procedure ps p && well_read_procedures ps rest

unfoldable pub well_read : Image → Bool
well_read image = well_read_procedures image.procedures image.procedures
