-- The call of the routine, computed on the compiled words. Assumes nothing.
use Rattle.std.specs.Prelude.{ℕ, zero, suc, ◌+◌, true, ◌≡◌, refl, length, get_or}
use mathlib.Core.List.{List, [], ◌∷◌, flat_map}
use Rattle.std.proofs.Common.{ap, ◌∙◌, arith}
use Rattle.definitions.specs.declared.Answer.TheVariants.{Done}
use Rattle.definitions.specs.Image.{header_word, array_word, procedure_word, type_word, block_word, statement_word, expression_word, raw_word, place_of, cell_count, base_of}
use Rattle.definitions.specs.Reading.{read_expression, read_arguments, read_statements, read_statement, read_types, read_procedure, read_procedures}
use Rattle.definitions.specs.Reading.{read_arrays, read_rest, read_image}
use Rattle.definitions.specs.Faults.{least}
use Rattle.definitions.specs.Sorts.{sort_in, mark_statement, sort_faults, argument_faults, statement_sort_faults, procedure_sort_faults, procedures_sort_faults}
use Rattle.definitions.specs.Sorts.{image_sort_faults}
use Rattle.definitions.specs.Labels.{secret_in, rc_after, is_constant, constant_value, bounded_sum, bounded_index, label_faults, argument_label_faults}
use Rattle.definitions.specs.Labels.{statement_label_faults, procedure_label_faults, procedures_label_faults, image_label_faults}
use Rattle.definitions.specs.Checking.{fault_of, without_fault, admitted}
use Rattle.definitions.specs.Operators.{apply_binary, apply_unary}
use Rattle.definitions.specs.Running.{emit, in_array, index_at, divided, shifted, operated, evaluate, evaluate_all, tick, passes, taken, received}
use Rattle.definitions.specs.Running.{run_statement, frame, finish, run_procedure}
use Rattle.definitions.specs.Requests.{with_cells, ready_to_load, ready_to_serve}
use Rattle.definitions.specs.Requests.{Called, argument_values, ended, called_on, served_call, call}
use Rattle.padding.specs.Calling.{procedure, budget, trace_length, indices, trace}
use Rattle.padding.proofs.CompiledWords.{compiled_words}
use Rattle.padding.proofs.Passes.{before, passed}

-- cells by their indices, from one on
unfoldable pub listed : (ℕ → ℕ) → ℕ → ℕ → List ℕ
listed f i zero = []
listed f i (suc left) = f i ∷ listed f (i + 1) left

pub listed_all : (cells : List ℕ) (f : ℕ → ℕ) (i : ℕ) → ((j : ℕ) → f (i + j) ≡ get_or cells j 0) → listed f i (length cells) ≡ cells
unfolding listed
listed_all [] f i h = refl
listed_all (c ∷ cs) f i h =
    let z : i ≡ i + 0 = omega arith in
    let first : f i ≡ c = ap f z ∙ h 0 in
    let rest : (j : ℕ) → f (i + 1 + j) ≡ get_or cs j 0 = λ j. let k : i + 1 + j ≡ i + suc j = omega arith in ap f k ∙ h (suc j) in
    rw (first, listed_all cs f (i + 1) rest)

-- what a call comes to, by its last cell
abbrev pub came_to : ℕ → List ℕ → Called
came_to n block = (Done (passed n 0 (before n) block) budget trace_length, block, trace)

-- on sixteen cells of which nothing is known
pub computed : (f : ℕ → ℕ) → call true compiled_words (listed f 0 16) procedure [] budget trace_length ≡ came_to (f 15) (listed f 0 16)
unfolding listed passed trace indices header_word array_word procedure_word type_word block_word statement_word expression_word raw_word place_of cell_count base_of read_expression read_arguments read_statements read_statement read_types read_procedure read_procedures read_arrays read_rest read_image least sort_in mark_statement sort_faults argument_faults statement_sort_faults procedure_sort_faults procedures_sort_faults image_sort_faults secret_in rc_after is_constant constant_value bounded_sum bounded_index label_faults argument_label_faults statement_label_faults procedure_label_faults procedures_label_faults image_label_faults fault_of without_fault admitted flat_map apply_binary apply_unary emit in_array index_at divided shifted operated evaluate evaluate_all tick passes taken received run_statement frame finish run_procedure argument_values ended called_on with_cells ready_to_load ready_to_serve served_call call
computed f = refl
