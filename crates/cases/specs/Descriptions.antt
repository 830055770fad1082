-- What three images are described as, by computing: the paper's example, the same compiled, and an image with arrays and a guarded procedure.
-- Assumes nothing.
use Rattle.std.specs.Prelude.{ℕ, true, ◌≡◌, refl, length, replicate}
use mathlib.Core.List.{List, [], ◌∷◌, flat_map}
use Rattle.definitions.specs.declared.Compiled.{Compiled}
use Rattle.definitions.specs.declared.Compiled.TheVariants.{Written, Refused}
use Rattle.definitions.specs.Operators.{apply_binary, apply_unary}
use Rattle.definitions.specs.Image.{header_word, array_word, procedure_word, type_word, block_word, statement_word}
use Rattle.definitions.specs.Image.{expression_word, raw_word, place_of, cell_count}
use Rattle.definitions.specs.Reading.{read_expression, read_arguments, read_statements, read_statement, read_types}
use Rattle.definitions.specs.Reading.{read_procedure, read_procedures, read_arrays, read_rest, read_image}
use Rattle.definitions.specs.Faults.{least}
use Rattle.definitions.specs.Sorts.{sort_in, mark_statement, sort_faults, argument_faults, statement_sort_faults}
use Rattle.definitions.specs.Sorts.{procedure_sort_faults, procedures_sort_faults, image_sort_faults}
use Rattle.definitions.specs.Labels.{secret_in, rc_after, is_constant, constant_value, bounded_sum, bounded_index, label_faults}
use Rattle.definitions.specs.Labels.{argument_label_faults, statement_label_faults, procedure_label_faults}
use Rattle.definitions.specs.Labels.{procedures_label_faults, image_label_faults}
use Rattle.definitions.specs.Checking.{fault_of, without_fault, admitted}
use Rattle.definitions.specs.Describing.{parameter_types, procedure_fields, description, described_tree, described}
use Rattle.cases.specs.Cases.{example, compiled_example}

-- the whole answer where just as many words are lent
abbrev pub Described : List ℕ → List ℕ → Type 0
Described image words = ◌≡◌ {A = Compiled × List ℕ} (described true image (replicate (length words) 0)) (Written (length words), words)

-- Two arrays, a secret one of 3 cells and a public one of 4; a guarded procedure with two parameters, a public word and a secret boolean, whose
-- result is a secret word; an open procedure without parameters, whose result is a public boolean.
abbrev pub arrays : List ℕ
arrays =
    0x10000202 ∷ 0x20010003 ∷ 0x20000004
    ∷ 0x30010201 ∷ 0x40000001 ∷ 0x40000000 ∷ 0x40000003 ∷ 0x40000001 ∷ 0x50000001 ∷ 0x60040000 ∷ 0xA0000002
    ∷ 0x30000000 ∷ 0x40000002 ∷ 0x50000001 ∷ 0x60040000 ∷ 0x90000001 ∷ []

pub described_so : Described example (0 ∷ 0 ∷ 1 ∷ 0 ∷ 0 ∷ 1 ∷ 1 ∷ 1 ∷ 0 ∷ 0 ∷ 0 ∷ 0 ∷ 0 ∷ 0 ∷ 0 ∷ 0 ∷ [])
    × Described compiled_example (1 ∷ 0 ∷ 1 ∷ 0 ∷ 0 ∷ 1 ∷ 1 ∷ 1 ∷ 0 ∷ 0 ∷ 0 ∷ 0 ∷ 0 ∷ 0 ∷ 0 ∷ 0 ∷ [])
    × Described arrays (0 ∷ 2 ∷ 2 ∷ 7 ∷ 1 ∷ 3 ∷ 0 ∷ 4 ∷ 1 ∷ 2 ∷ 1 ∷ 0 ∷ 3 ∷ 0 ∷ 0 ∷ 0 ∷ 0 ∷ 0 ∷ 0 ∷ 0
    ∷ 0 ∷ 0 ∷ 2 ∷ 0 ∷ 0 ∷ 0 ∷ 0 ∷ 0 ∷ 0 ∷ 0 ∷ 0 ∷ 0 ∷ [])
    -- a word fewer is too few
    × ◌≡◌ {A = Compiled × List ℕ} (described true example (replicate 15 7)) (Refused 16 0, replicate 15 7)
unfolding apply_binary apply_unary header_word array_word procedure_word type_word block_word statement_word expression_word raw_word place_of cell_count read_expression read_arguments read_statements read_statement read_types read_procedure read_procedures read_arrays read_rest read_image least sort_in mark_statement sort_faults argument_faults statement_sort_faults procedure_sort_faults procedures_sort_faults image_sort_faults secret_in rc_after is_constant constant_value bounded_sum bounded_index label_faults argument_label_faults statement_label_faults procedure_label_faults procedures_label_faults image_label_faults fault_of without_fault admitted flat_map parameter_types procedure_fields description described_tree described
described_so = (refl, refl, refl, refl)
