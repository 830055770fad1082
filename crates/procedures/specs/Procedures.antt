-- What emitting a procedure of an image leaves, and what is known of it before. Assumes nothing.
use Rattle.std.specs.Prelude.{ℕ, ◌+◌, ◌*◌, ◌-◌, List, [], ◌∷◌, ◌++◌, ◌≡◌, take, drop}
use Rattle.definitions.specs.Choice.{pick}
use Rattle.definitions.specs.Operators.{word_sort, boolean_sort}
use Rattle.definitions.specs.Image.{guarded, Block, Procedure}
use Rattle.definitions.specs.Encoding.{word_with}
use Rattle.definitions.specs.Compiling.{secret_boolean, defers, levels, pair_types, needed, temporary_types, compiled_types, compiled_body, compiled_procedure}
use Rattle.laws.specs.ImageIn.{image_in, procedures_in}
use Rattle.tables.specs.Looking.{procedure_in}
use Rattle.procedures.specs.declared.Source.{Source}
use Rattle.procedures.specs.declared.Numbers.{Numbers}

-- what there is to know of a procedure
abbrev pub source_of : List ℕ → ℕ → Source
source_of image f =
    record {
      guarded = guarded (procedure_in image f);
      parameters = (procedure_in image f).parameters;
      result = (procedure_in image f).result;
      defers = defers (image_in image).arrays (procedure_in image f);
      levels = levels (image_in image).arrays (procedure_in image f);
      words = needed (procedures_in image) (image_in image).arrays (procedure_in image f) word_sort;
      booleans = needed (procedures_in image) (image_in image).arrays (procedure_in image f) boolean_sort;
    }

-- what is told of a procedure of form 0 is so
pub record Described (image : List ℕ) (f : ℕ) (p : Source) : Type 0 where
  pub source_form : (image_in image).form ≡ 0
  pub source_is : p ≡ source_of image f

-- the variables of the compiled procedure, where the source has so many
abbrev pub numbers_of : Source → ℕ → Numbers
numbers_of p size =
    record {
      first = pick p.guarded p.parameters size;
      rv = size + pick p.guarded 1 0;
      pair = size + pick p.guarded 1 0 + pick p.defers 2 0;
      word = size + pick p.guarded 1 0 + pick p.defers 2 0 + 2 * p.levels;
      boolean = size + pick p.guarded 1 0 + pick p.defers 2 0 + 2 * p.levels + pick p.words 1 0;
      count = size + pick p.guarded 1 0 + pick p.defers 2 0 + 2 * p.levels + pick p.words 1 0 + pick p.booleans 1 0;
    }

-- their type words, from those of the source's variables
abbrev pub types_of : Source → List ℕ → List ℕ
types_of p types =
    (take p.parameters types ++ (pick p.guarded (secret_boolean ∷ []) [] ++ drop p.parameters types))
    ++ (pick p.defers (p.result ∷ secret_boolean ∷ []) [] ++ (pair_types p.levels ++ temporary_types p.words p.booleans))

-- the procedure's word
abbrev pub head_for : Source → ℕ → ℕ
head_for p size =
    word_with 3 (0 * 65536 + (p.parameters + pick p.guarded 1 0) * 256 + ((numbers_of p size).count - (p.parameters + pick p.guarded 1 0)))

-- a procedure of the image compiled: the type words of its variables, its body, the whole
abbrev pub types_for : List ℕ → ℕ → List ℕ
types_for image f = compiled_types (procedures_in image) (image_in image).arrays (procedure_in image f)

abbrev pub body_for : List ℕ → ℕ → Block
body_for image f = compiled_body (procedures_in image) (image_in image).arrays (procedure_in image f)

abbrev pub procedure_for : List ℕ → ℕ → Procedure
procedure_for image f = compiled_procedure (procedures_in image) (image_in image).arrays (procedure_in image f)
