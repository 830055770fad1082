-- Document 02, wish 8: what "an image that compiled before" speaks of. The compiler of definitions/specs/Compiling.antt with T, E and the temporaries
-- numbered as document 01 has it, by place: two for each secret if, one for each call in a secret context. What the wish leaves as it was is taken from
-- there.
use Rattle.std.specs.Prelude.{ℕ, ◌+◌, Bool, true, false, ◌||◌, List, [], ◌∷◌, ◌++◌, map, eqb, length, take, drop}
use Rattle.definitions.specs.Choice.{pick}
use Rattle.definitions.specs.declared.Compiled.{Compiled}
use Rattle.definitions.specs.declared.Compiled.TheVariants.{Refused}
use Rattle.definitions.specs.Bytes.{words_of, lent}
use Rattle.definitions.specs.Image.{Expression, variable, cell, unary, Statement, assign, store, conditional, loop, return, call, Block, done}
use Rattle.definitions.specs.Image.{sequence, Procedure, Image, guarded, procedure_at, type_sort}
use Rattle.definitions.specs.Reading.{Parse, got, refused}
use Rattle.definitions.specs.Labels.{secret_in, rc_after, rc_after_block}
use Rattle.definitions.specs.Checking.{admitted}
use Rattle.definitions.specs.Compiling.{secret_of, secret_boolean, renamed, moved, moved_all, act, masked, under, one, followed_by}
use Rattle.definitions.specs.Compiling.{ArmCode, compiled_return, compiled_call, defers, guards, return_variable, first_moved, closed}
use Rattle.definitions.specs.Compiling.{written}
use Rattle.definitions.specs.Host.{whole_words}

-- Document 01: "by place T, E for each secret if and one secret temporary, of the callee's result sort, for each call in a secret context"
abbrev pub former_call_temporary : Bool → List Procedure → ℕ → List ℕ
former_call_temporary context ps f = pick context (secret_of (type_sort (procedure_at ps f).result) ∷ []) []

abbrev pub former_if_temporaries : Bool → List ℕ
former_if_temporaries secret = pick secret (secret_boolean ∷ secret_boolean ∷ []) []

-- the type words of the temporaries of a statement, by pc and rc before it, and of a block
module _ (ps : List Procedure) (arrays types : List ℕ) where
  unfoldable mutual
    pub former_temporaries : Bool → Bool → Statement → List ℕ
    former_temporaries pc rc (assign x e) = []
    former_temporaries pc rc (store a i e) = []
    former_temporaries pc rc (conditional c a b) = former_if_temporaries (secret_in types arrays c)
        ++ (former_block_temporaries (pc || secret_in types arrays c) rc a
        ++ former_block_temporaries (pc || secret_in types arrays c) rc b)
    former_temporaries pc rc (loop x f t b) = former_block_temporaries pc (rc_after_block types arrays pc rc b) b
    former_temporaries pc rc (return e) = []
    former_temporaries pc rc (call f x es) = former_call_temporary (pc || rc) ps f

    pub former_block_temporaries : Bool → Bool → Block → List ℕ
    former_block_temporaries pc rc done = []
    former_block_temporaries pc rc (sequence p s b) =
        former_temporaries pc rc s ++ former_block_temporaries pc (rc_after types arrays pc rc s) b

-- `size`: how many temporaries the first arm has
unfoldable pub former_if : Bool → Bool → ℕ → Bool → ℕ → ℕ → Expression → ℕ → ArmCode → ArmCode → Block
former_if true pc arm rc live k c size a b = sequence 0 (assign k (under (pc || rc) (act pc arm rc live) c))
    (sequence 0 (assign (k + 1) (under (pc || rc) (act pc arm rc live) (unary 0 0 (variable 0 k))))
    (followed_by (a true k (k + 2)) (b true (k + 1) (k + 2 + size))))
former_if false pc arm rc live k c size a b = one (conditional c (a pc arm k) (b pc arm (k + size)))

-- a statement and a block, with the next temporary
module _ (ps : List Procedure) (arrays types : List ℕ) (first rv : ℕ) where
  unfoldable mutual
    pub former_statement : Statement → Bool → ℕ → Bool → ℕ → Block
    former_statement (assign x e) pc arm rc k = one (assign (renamed first x)
        (masked (pc || rc) (act pc arm rc (rv + 1)) (moved first e) (variable 0 (renamed first x))))
    former_statement (store a i e) pc arm rc k = one (store a (moved first i)
        (masked (pc || rc) (act pc arm rc (rv + 1)) (moved first e) (cell 0 a (moved first i))))
    former_statement (conditional c a b) pc arm rc k =
        former_if (secret_in types arrays c) pc arm rc (rv + 1) k (moved first c)
        (length (former_block_temporaries ps arrays types (pc || secret_in types arrays c) rc a))
        (λ q v n. former_block a q v rc n) (λ q v n. former_block b q v rc n)
    former_statement (loop x f t b) pc arm rc k = one (loop (renamed first x) (moved first f) (moved first t)
        (former_block b pc arm (rc_after_block types arrays pc rc b) k))
    former_statement (return e) pc arm rc k = compiled_return (pc || rc) (act pc arm rc (rv + 1)) rv (moved first e)
    former_statement (call f x es) pc arm rc k =
        compiled_call (pc || rc) (guarded (procedure_at ps f)) (act pc arm rc (rv + 1)) k f (renamed first x)
        (moved_all first es)

    pub former_block : Block → Bool → ℕ → Bool → ℕ → Block
    former_block done pc arm rc k = done
    former_block (sequence p s b) pc arm rc k = followed_by (former_statement s pc arm rc k)
        (former_block b pc arm (rc_after types arrays pc rc s) (k + length (former_temporaries ps arrays types pc rc s)))

abbrev pub former_first_temporary : List ℕ → Procedure → ℕ
former_first_temporary arrays p = return_variable p + pick (defers arrays p) 2 0

module _ (ps : List Procedure) (arrays : List ℕ) where
  unfoldable pub former_types : Procedure → List ℕ
  former_types p = take p.parameters p.types
      ++ (pick (guarded p) (secret_boolean ∷ []) [] ++ (drop p.parameters p.types
      ++ (pick (defers arrays p) (p.result ∷ secret_boolean ∷ []) []
      ++ former_block_temporaries ps arrays p.types (guarded p) false p.body)))

  unfoldable pub former_body : Procedure → Block
  former_body p = closed (defers arrays p) (return_variable p)
      (former_block ps arrays p.types (first_moved p) (return_variable p)
      p.body (guarded p) p.parameters false (former_first_temporary arrays p))

  unfoldable pub former_procedure : Procedure → Procedure
  former_procedure p = record {
    place = 0;
    mode = 0;
    parameters = p.parameters + guards p;
    result = p.result;
    types = former_types p;
    body = former_body p;
  }

unfoldable pub former_image : Image → Image
former_image image = record {
  form = 1;
  arrays = image.arrays;
  procedures = map (λ p. former_procedure image.procedures image.arrays p) image.procedures;
}

unfoldable pub former_tree : Parse Image → List ℕ → Compiled × List ℕ
former_tree (refused n p) out = (Refused n p, out)
former_tree (got image n) out = pick (eqb image.form 0) (written (former_image image) out) (Refused 14 0, out)

-- the former compiler's answer, and what the lent output held afterwards, on words and on lent bytes
unfoldable pub former_compiled : Bool → List ℕ → List ℕ → Compiled × List ℕ
former_compiled whole image out = former_tree (admitted whole image) out

unfoldable pub former_compile_bytes : List ℕ → List ℕ → Compiled × List ℕ
former_compile_bytes image out =
    let r : Compiled × List ℕ = former_compiled (whole_words image) (words_of image) (words_of out) in
    (r.0, lent out r.1)
