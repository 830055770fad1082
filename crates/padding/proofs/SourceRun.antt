-- The source's run ends as the compiled one does: property 2. Assumes nothing.
use Rattle.std.specs.Prelude.{ℕ, ◌*◌, true, false, ◌≡◌, refl, length, get_or, take, replicate}
use mathlib.Core.List.{List, [], flat_map}
use Rattle.std.proofs.Common.{sym, ap, ◌∙◌, arith}
use Rattle.definitions.specs.declared.Answer.TheVariants.{Done}
use Rattle.definitions.specs.Bytes.{words_of, bytes_of, lent}
use Rattle.definitions.specs.Image.{header_word, array_word, procedure_word, type_word, block_word, statement_word, expression_word, raw_word, place_of, cell_count, base_of, Image, procedure_at}
use Rattle.definitions.specs.Reading.{read_expression, read_arguments, read_statements, read_statement, read_types, read_procedure, read_procedures}
use Rattle.definitions.specs.Reading.{read_arrays, read_rest, read_image, got}
use Rattle.definitions.specs.Faults.{least}
use Rattle.definitions.specs.Sorts.{sort_in, mark_statement, sort_faults, argument_faults, statement_sort_faults, procedure_sort_faults, procedures_sort_faults}
use Rattle.definitions.specs.Sorts.{image_sort_faults}
use Rattle.definitions.specs.Labels.{secret_in, rc_after, is_constant, constant_value, bounded_sum, bounded_index, label_faults, argument_label_faults}
use Rattle.definitions.specs.Labels.{statement_label_faults, procedure_label_faults, procedures_label_faults, image_label_faults}
use Rattle.definitions.specs.Checking.{fault_of, without_fault, admitted}
use Rattle.definitions.specs.Operators.{apply_binary, apply_unary}
use Rattle.definitions.specs.Running.{emit, in_array, index_at, divided, shifted, operated, evaluate, evaluate_all, tick, passes, taken, received}
use Rattle.definitions.specs.Running.{run_statement, frame, finish, run_procedure}
use Rattle.definitions.specs.Requests.{with_cells, ready_to_load, ready_to_serve, argument_values, ended, called_on, served_call, call}
use Rattle.definitions.specs.Host.{whole_words, compile_bytes, call_bytes}
use Rattle.statements.specs.Statements.{tree_of, with_guard, ending, out_of_room, SameMeaning, turn, Response}
use Rattle.results.specs.Accepted.{admitted_admissible}
use Rattle.properties.specs.CompiledBytes.{same_meaning}
use Rattle.padding.specs.Rule.{unpadded}
use Rattle.padding.specs.Routine.{source_words, source, image, image_length}
use Rattle.padding.specs.Calling.{procedure, budget, trace_length}
use Rattle.padding.proofs.CompiledWords.{image_words_lem, writes}
use Rattle.padding.proofs.Run.{answers}

unfoldable tree : Image
tree = tree_of (admitted true source_words)

read : admitted (whole_words source) (words_of source) ≡ got tree 50
unfolding tree tree_of source_words bytes_of words_of header_word array_word procedure_word type_word block_word statement_word expression_word raw_word place_of cell_count base_of read_expression read_arguments read_statements read_statement read_types read_procedure read_procedures read_arrays read_rest read_image least sort_in mark_statement sort_faults argument_faults statement_sort_faults procedure_sort_faults procedures_sort_faults image_sort_faults secret_in rc_after is_constant constant_value bounded_sum bounded_index label_faults argument_label_faults statement_label_faults procedure_label_faults procedures_label_faults image_label_faults fault_of without_fault admitted flat_map
read = refl

-- what the compiler wrote is the image, all of it
target : take (4 * 60) (compile_bytes source (replicate (4 * image_length) 0)).1 ≡ image
unfolding image bytes_of
target = ap (λ (x : List ℕ). take 240 x) image_words_lem ∙ sym image_words_lem

same : SameMeaning source tree image
same = rw (sym target) (same_meaning source (replicate (4 * image_length) 0) 60 writes tree (admitted_admissible (whole_words source) (words_of source) tree 50 read))

-- no argument, and no guard
no_guard : words_of [] ≡ with_guard (procedure_at tree.procedures procedure) (words_of [])
unfolding tree tree_of source_words words_of header_word array_word procedure_word type_word block_word statement_word expression_word raw_word place_of cell_count base_of read_expression read_arguments read_statements read_statement read_types read_procedure read_procedures read_arrays read_rest read_image least sort_in mark_statement sort_faults argument_faults statement_sort_faults procedure_sort_faults procedures_sort_faults image_sort_faults secret_in rc_after is_constant constant_value bounded_sum bounded_index label_faults argument_label_faults statement_label_faults procedure_label_faults procedures_label_faults image_label_faults fault_of without_fault admitted flat_map
no_guard = refl

pub source_alike : (block : List ℕ) (steps : ℕ) (room : List ℕ) → length block ≡ 16
    → out_of_room (call_bytes source (bytes_of block) procedure [] steps room).0 ≡ false
    → (ending (call_bytes source (bytes_of block) procedure [] steps room).0 ≡ Done (unpadded block) 0 0)
    × ((call_bytes source (bytes_of block) procedure [] steps room).1 ≡ bytes_of block)
unfolding turn
source_alike block steps room e h =
    let spare : List ℕ = replicate (4 * trace_length) 0 in
    let a = answers block spare e refl in
    let answer : (call_bytes image (bytes_of block) procedure [] budget spare).0 ≡ Done (unpadded block) budget trace_length = ap (λ (r : Response). r.answer) a in
    let cells : (call_bytes image (bytes_of block) procedure [] budget spare).1 ≡ bytes_of block = ap (λ (r : Response). r.after.cells) a in
    let (_, alike) = same.calls (bytes_of block) procedure [] [] steps budget room spare no_guard in
    let (ends, after) = alike h (rw answer) in
    (ends ∙ ap ending answer, after ∙ cells)

-- Its branch at word 15 shows whether the last cell is 0.
pub source_shows : (call_bytes source (bytes_of (replicate 16 0)) procedure [] 100 (replicate 400 0)).2
    ≡ (call_bytes source (bytes_of (replicate 16 1)) procedure [] 100 (replicate 400 0)).2 → ⊥
unfolding source_words bytes_of words_of header_word array_word procedure_word type_word block_word statement_word expression_word raw_word place_of cell_count base_of read_expression read_arguments read_statements read_statement read_types read_procedure read_procedures read_arrays read_rest read_image least sort_in mark_statement sort_faults argument_faults statement_sort_faults procedure_sort_faults procedures_sort_faults image_sort_faults secret_in rc_after is_constant constant_value bounded_sum bounded_index label_faults argument_label_faults statement_label_faults procedure_label_faults procedures_label_faults image_label_faults fault_of without_fault admitted flat_map apply_binary apply_unary emit in_array index_at divided shifted operated evaluate evaluate_all tick passes taken received run_statement frame finish run_procedure argument_values ended called_on with_cells ready_to_load ready_to_serve served_call call call_bytes lent
source_shows e = let h : ◌≡◌ {A = ℕ} 1 0 = ap (λ (t : List ℕ). get_or t 15 0) e in absurd (omega arith)
