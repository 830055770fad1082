-- Document 02, wish 7, by computing: a routine that stores its argument and reads it back, called and previewed on the same cells.
-- Assumes nothing.
use Rattle.std.specs.Prelude.{ℕ, true, ◌≡◌, refl}
use mathlib.Core.List.{List, [], ◌∷◌, flat_map}
use Rattle.definitions.specs.declared.Answer.{Answer}
use Rattle.definitions.specs.declared.Answer.TheVariants.{Done, Stopped, Refused}
use Rattle.definitions.specs.Image.{header_word, array_word, procedure_word, type_word, block_word, statement_word}
use Rattle.definitions.specs.Image.{expression_word, raw_word, place_of, cell_count, base_of}
use Rattle.definitions.specs.Reading.{read_expression, read_arguments, read_statements, read_statement, read_types}
use Rattle.definitions.specs.Reading.{read_procedure, read_procedures, read_arrays, read_rest, read_image}
use Rattle.definitions.specs.Faults.{least}
use Rattle.definitions.specs.Sorts.{sort_in, mark_statement, sort_faults, argument_faults, statement_sort_faults}
use Rattle.definitions.specs.Sorts.{procedure_sort_faults, procedures_sort_faults, image_sort_faults}
use Rattle.definitions.specs.Labels.{secret_in, rc_after, is_constant, constant_value, bounded_sum, bounded_index, label_faults}
use Rattle.definitions.specs.Labels.{argument_label_faults, statement_label_faults, procedure_label_faults}
use Rattle.definitions.specs.Labels.{procedures_label_faults, image_label_faults}
use Rattle.definitions.specs.Checking.{fault_of, without_fault, admitted}
use Rattle.definitions.specs.Running.{emit, in_array, index_at, evaluate, evaluate_all, tick, passes}
use Rattle.definitions.specs.Running.{taken, received, run_statement, frame, finish, run_procedure}
use Rattle.definitions.specs.Requests.{Called, with_cells, ready_to_load, ready_to_serve, argument_values, ended, called_on}
use Rattle.definitions.specs.Requests.{served_call, call, preview}

-- one secret array of one cell; store the argument there, then return what stands there
abbrev pub storing : List ℕ
storing =
    0x10000101 ∷ 0x20010001 ∷ 0x30000100 ∷ 0x40000001 ∷ 0x40000001 ∷ 0x50000002
    ∷ 0x60010000 ∷ 0x70000000 ∷ 0xA0000000 ∷ 0x60040000 ∷ 0xB0000000 ∷ 0x70000000 ∷ []

-- the image's own cell, and one behind it
abbrev pub cells : List ℕ
cells = 5 ∷ 9 ∷ []

-- arguments, budget, trace words lent; answer and trace words recorded of both, and the cells that the call leaves
abbrev pub Both : List ℕ → ℕ → ℕ → Answer → List ℕ → List ℕ → Type 0
Both arguments budget room answer trace after =
    ◌≡◌ {A = Called} (call true storing cells 0 arguments budget room) (answer, after, trace)
    × ◌≡◌ {A = Called} (preview true storing cells 0 arguments budget room) (answer, cells, trace)

-- a result, a spent budget, a full trace, a refusal
pub previewed_so : Both (7 ∷ []) 2 6 (Done 7 2 6) (0x40000006 ∷ 0 ∷ 0x4000000A ∷ 0 ∷ 0x80000009 ∷ 0 ∷ []) (7 ∷ 9 ∷ [])
    × Both (7 ∷ []) 1 6 (Stopped 21 9 1 2) (0x40000006 ∷ 0 ∷ []) cells
    × Both (7 ∷ []) 2 3 (Stopped 22 10 2 2) (0x40000006 ∷ 0 ∷ []) cells
    × Both [] 2 6 (Refused 18 0) [] cells
unfolding header_word array_word procedure_word type_word block_word statement_word expression_word raw_word place_of cell_count base_of read_expression read_arguments read_statements read_statement read_types read_procedure read_procedures read_arrays read_rest read_image least sort_in mark_statement sort_faults argument_faults statement_sort_faults procedure_sort_faults procedures_sort_faults image_sort_faults secret_in rc_after is_constant constant_value bounded_sum bounded_index label_faults argument_label_faults statement_label_faults procedure_label_faults procedures_label_faults image_label_faults fault_of without_fault admitted flat_map emit in_array index_at evaluate evaluate_all tick passes taken received run_statement frame finish run_procedure with_cells ready_to_load ready_to_serve argument_values ended called_on served_call call preview
previewed_so = ((refl, refl), (refl, refl), (refl, refl), (refl, refl))
